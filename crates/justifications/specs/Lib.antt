pub mod Chained
pub mod Woven
pub mod Kept
