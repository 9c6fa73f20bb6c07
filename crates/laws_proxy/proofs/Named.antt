-- Which of the host's streams the conversations of the proxy name (Firecracker's vsock documentation).
pub mod Lists
pub mod Hosts
pub mod Shaking
pub mod Turning
