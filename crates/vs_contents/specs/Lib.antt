pub mod Contents
pub mod CallTree
