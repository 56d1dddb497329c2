pub mod Refusing
pub mod Parked
pub mod Noting
pub mod Changing
pub mod Remembered
pub mod Made
pub mod Whys
