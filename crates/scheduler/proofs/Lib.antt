pub mod Scans
pub mod Picks
