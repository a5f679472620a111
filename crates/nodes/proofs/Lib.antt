pub mod Bounds
pub mod CutParts
