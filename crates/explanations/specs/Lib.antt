pub mod Words
pub mod Forcing
pub mod Marks
pub mod Naming
