pub mod Links
pub mod Edits
pub mod Keeping
