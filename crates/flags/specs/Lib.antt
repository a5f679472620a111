pub mod Out
pub mod Puts
