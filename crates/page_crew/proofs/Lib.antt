pub mod Opening
pub mod InTurn
pub mod CrewOf
pub mod Giving
pub mod Taking
pub mod Running
