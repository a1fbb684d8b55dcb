pub mod Batches
pub mod Lines
pub mod Reading
pub mod Worked
