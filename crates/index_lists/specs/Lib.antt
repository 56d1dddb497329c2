pub mod Lists
pub mod Links
pub mod Chains
pub mod Kept
