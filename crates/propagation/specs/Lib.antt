pub mod Propagating
pub mod Uncovered
pub mod Laws
