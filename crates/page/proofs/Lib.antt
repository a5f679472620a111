pub mod Cells
pub mod Digits
pub mod Fitting
pub mod Places
pub mod Stores
pub mod Passing
pub mod PartitionPage
