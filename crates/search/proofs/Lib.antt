pub mod Answers
pub mod Nodes
pub mod PartWords
pub mod Root
pub mod Splits
pub mod Steps
pub mod Way
