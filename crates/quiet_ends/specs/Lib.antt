pub mod QuietEnds
pub mod WorkedQuiet
