pub mod Recording
pub mod Spending
