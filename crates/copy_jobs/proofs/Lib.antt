pub mod Same
pub mod JobsLeft
pub mod Handing
pub mod Giving
