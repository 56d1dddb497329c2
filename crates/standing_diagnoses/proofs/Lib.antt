pub mod Gathered
pub mod Diagnosed
