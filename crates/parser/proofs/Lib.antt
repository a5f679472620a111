pub mod Way
pub mod Seen
pub mod Decided
