pub mod Summaries
pub mod Worked
