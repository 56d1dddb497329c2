pub mod Free
pub mod Remembered
pub mod Tables
