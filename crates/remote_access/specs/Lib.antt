pub mod Covers
pub mod Answers
