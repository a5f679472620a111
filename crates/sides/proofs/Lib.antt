pub mod Bools
pub mod Powers
