pub mod Rule
pub mod Plays
pub mod Passes
pub mod Answers
pub mod Raw
