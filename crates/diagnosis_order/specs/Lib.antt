pub mod Ranks
pub mod Stops
pub mod Laws
