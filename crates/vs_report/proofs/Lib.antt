pub mod LinesGiven
pub mod Reports
pub mod HostPrograms
pub mod Excerpts
