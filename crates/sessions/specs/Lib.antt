pub mod Lists
pub mod Samples
pub mod Coding
pub mod Demand
pub mod Forest
