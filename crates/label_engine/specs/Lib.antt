pub mod Sources
pub mod Update
pub mod Engine
pub mod Questions
