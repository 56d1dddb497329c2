pub mod Undoing
pub mod Earlier
pub mod Kept
pub mod Laws
