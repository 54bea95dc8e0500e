pub mod Parting
pub mod Reading
pub mod Taking
pub mod Writing
