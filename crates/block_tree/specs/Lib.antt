pub mod Using
pub mod Openings
