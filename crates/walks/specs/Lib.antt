pub mod Stands
pub mod Kids
pub mod Walks
pub mod Rooted
