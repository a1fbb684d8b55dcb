pub mod Speaking
pub mod Ordering
pub mod Accounts
pub mod Granting
pub mod Halves
pub mod Growing
pub mod Meeting
pub mod Timing
