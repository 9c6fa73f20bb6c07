pub mod View
pub mod Rings
pub mod Posting
pub mod Counted
