pub mod Answering
pub mod Bounding
pub mod Granting
pub mod Reading
