pub mod EmptyFrames
pub mod WorkedEmpty
