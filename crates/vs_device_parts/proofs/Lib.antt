pub mod Under
mod Copying
mod SlotChanges
mod Noting
pub mod Each
mod Rounds
mod Writes
mod Held
pub mod Growing
