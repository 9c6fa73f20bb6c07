pub mod Queue
pub mod View
