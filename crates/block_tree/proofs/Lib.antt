pub mod Uses
pub mod Lifting
