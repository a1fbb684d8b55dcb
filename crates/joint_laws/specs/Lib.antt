pub mod Growth
pub mod Halves
pub mod Credits
pub mod Receives
pub mod OrderOfTime
pub mod WorkedJoint
