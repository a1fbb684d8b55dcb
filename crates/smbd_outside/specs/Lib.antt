pub mod Causes
pub mod Memory
pub mod Status
pub mod Streams
