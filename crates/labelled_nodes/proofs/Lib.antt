pub mod Labelled
pub mod Puts
pub mod Changed
pub mod Counts
pub mod Supported
pub mod Wholes
