pub mod Inferences
pub mod Choices
pub mod Found
pub mod Near
