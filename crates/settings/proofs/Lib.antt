pub mod Exponents
pub mod First
pub mod Passed
pub mod Grid
pub mod Numbers
pub mod Faults
pub mod Refused
