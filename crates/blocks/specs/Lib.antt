pub mod Copies
pub mod Table
pub mod RowNumbers
