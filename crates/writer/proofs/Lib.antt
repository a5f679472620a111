pub mod Alone
pub mod Delivery
pub mod Ends
pub mod Looked
pub mod Whole
pub mod QuadLeaf
