pub mod Finer
pub mod Blocks
pub mod Compare
pub mod PartitionsCompared
pub mod LawsOfFiner
pub mod Tests
