pub mod Standing
pub mod Kept
pub mod View
pub mod Laws
pub mod Asking
pub mod Positions
pub mod Conflicts
pub mod Choosing
