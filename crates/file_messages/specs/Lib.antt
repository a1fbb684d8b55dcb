pub mod Messages
pub mod Runs
pub mod Written
pub mod WorkedMessages
pub mod WorkedCopies
