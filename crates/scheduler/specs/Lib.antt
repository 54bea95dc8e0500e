pub mod Turns
pub mod Schedulers
pub mod Laws
