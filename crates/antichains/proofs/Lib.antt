pub mod Larger
pub mod Changes
pub mod Nearer
pub mod Signing
pub mod Walked
pub mod Blocks
