pub mod NewLines
pub mod RunLines
pub mod Runs
pub mod Worked
