pub mod Credits
pub mod Recorded
