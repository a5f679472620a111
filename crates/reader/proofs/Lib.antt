pub mod Ends
pub mod Delivery
pub mod Whole
pub mod Looked
