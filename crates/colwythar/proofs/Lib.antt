pub mod Told
pub mod Charged
