pub mod Idling
pub mod Quieting
pub mod Waiting
