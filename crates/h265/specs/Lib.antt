pub mod Calls
pub mod QuadNodes
pub mod Bounds
pub mod Demand3
pub mod H265
