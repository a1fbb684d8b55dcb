pub mod Options
pub mod Cuts
pub mod Copies
pub mod Steps
