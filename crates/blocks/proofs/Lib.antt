pub mod Pastes
pub mod Shares
pub mod RowNumbers
pub mod WordCopies
