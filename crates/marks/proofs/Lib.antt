pub mod RowWords
pub mod NextRows
pub mod Corners
pub mod Marking
pub mod Found
