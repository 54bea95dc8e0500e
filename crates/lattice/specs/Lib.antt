pub mod Levels
pub mod Orders
pub mod Ors
pub mod Semilattice
