pub mod Covers
pub mod Scoring
pub mod Predicting
pub mod Adding
pub mod Bounds
pub mod Scored
pub mod Weighed
pub mod Planned
