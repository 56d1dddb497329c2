pub mod First
pub mod Weights
pub mod Branches
pub mod Rounds
pub mod Waits
pub mod Laws
