pub mod RowNodes
pub mod Tables
pub mod State
