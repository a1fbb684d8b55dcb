pub mod Jobs
pub mod Tries
pub mod Runs
pub mod Workers
pub mod Turns
pub mod Laws
pub mod Worked
