pub mod Runs
pub mod CopyPasts
pub mod Laws
