pub mod QuadNodes
pub mod QuadSizes
pub mod Bounds
pub mod Sessions
pub mod H265
