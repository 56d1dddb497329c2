pub mod Own
pub mod Hitting
pub mod State
pub mod Levels
pub mod Laws
