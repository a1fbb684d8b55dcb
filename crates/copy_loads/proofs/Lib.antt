pub mod Completing
pub mod Opened
pub mod Asked
pub mod Loading
