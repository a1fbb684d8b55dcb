pub mod CopyLogs
pub mod Laws
pub mod Worked
