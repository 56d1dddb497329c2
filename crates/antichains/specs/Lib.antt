pub mod Nearest
pub mod Largest
pub mod Signed
pub mod Completed
