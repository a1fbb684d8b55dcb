pub mod ServerTurn
pub mod ServerStands
