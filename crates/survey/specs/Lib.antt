pub mod Around
pub mod Bits
pub mod Stretches
pub mod Table
pub mod Filling
