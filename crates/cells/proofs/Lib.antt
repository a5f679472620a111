pub mod Lines
pub mod Puts
pub mod Numbers
pub mod Samples
pub mod Holding
pub mod Trees
