pub mod Counting
pub mod Minimality
pub mod Widening
pub mod Rosters
pub mod Steps
pub mod Kept
