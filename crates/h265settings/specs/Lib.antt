pub mod Checks
pub mod Faults
pub mod Units
pub mod Words
