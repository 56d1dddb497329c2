pub mod Loads
pub mod Dropped
pub mod Parked
pub mod Readings
pub mod Alike
pub mod Again
