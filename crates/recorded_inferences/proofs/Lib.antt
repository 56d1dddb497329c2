pub mod Told
pub mod Walking
pub mod Noting
pub mod Dropped
