pub mod Checks
pub mod Units
pub mod Words
pub mod Faults
