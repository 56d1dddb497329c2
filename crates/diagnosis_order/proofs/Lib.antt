pub mod Ranking
pub mod Found
pub mod Sums
