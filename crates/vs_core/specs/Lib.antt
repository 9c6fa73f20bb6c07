pub mod Ready
pub mod Views
