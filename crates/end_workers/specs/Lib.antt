pub mod Sizes
pub mod Promise
pub mod News
pub mod Progress
pub mod Barriers
