pub mod Tries
pub mod Workers
