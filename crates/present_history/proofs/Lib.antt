pub mod Checked
pub mod Edits
pub mod Standing
pub mod Unused
pub mod TakenBack
pub mod Earlier
