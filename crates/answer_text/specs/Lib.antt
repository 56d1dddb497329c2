pub mod Texts
pub mod Labels
pub mod Derivations
pub mod Laws
