pub mod Command
pub mod Given
pub mod Lawful
pub mod Parser
pub mod Seen
pub mod Worked
