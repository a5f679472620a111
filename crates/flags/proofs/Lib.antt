pub mod Decided
pub mod Puts
