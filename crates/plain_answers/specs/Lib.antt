pub mod Closing
pub mod Members
pub mod Sets
pub mod Subsets
pub mod Tests
pub mod Words
