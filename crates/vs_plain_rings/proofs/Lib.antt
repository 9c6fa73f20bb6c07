pub mod Order
pub mod Making
pub mod Posting
pub mod Returning
pub mod Rings
pub mod Counted
