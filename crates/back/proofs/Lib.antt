pub mod Decisions
pub mod Way
pub mod Turned
pub mod Decided
pub mod Steps
pub mod Whole
