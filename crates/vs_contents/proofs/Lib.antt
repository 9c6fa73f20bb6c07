pub mod Leads
pub mod Conditions
pub mod Loops
