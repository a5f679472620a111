pub mod Map
pub mod Held
