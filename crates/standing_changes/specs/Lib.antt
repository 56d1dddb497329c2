pub mod Load
pub mod Remembered
