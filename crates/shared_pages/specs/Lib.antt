pub mod Answers
pub mod ByStep
pub mod Calls
pub mod Meets
pub mod Rule
pub mod Slots
pub mod Steps
pub mod Sweeps
