pub mod Covering
pub mod Words
pub mod Weighing
pub mod Planning
