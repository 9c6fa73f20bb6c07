mod Reading
mod Rights
mod Told
