pub mod Table
pub mod Marks
