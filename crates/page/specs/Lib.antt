pub mod Lines
pub mod Text
pub mod Page
pub mod PartitionPage
