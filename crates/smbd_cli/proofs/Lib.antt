pub mod Named
pub mod Plainly
