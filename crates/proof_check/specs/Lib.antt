pub mod Written
pub mod Checking
pub mod Closing
pub mod Ordered
pub mod Rounds
pub mod Turns
