pub mod Recorded
pub mod Dropped
