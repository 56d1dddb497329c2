pub mod Joining
pub mod Naming
pub mod LabelLines
pub mod Listing
pub mod Anywhere
pub mod StepLines
pub mod Nameable
