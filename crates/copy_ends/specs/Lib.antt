pub mod Clients
pub mod Turns
pub mod Ends
pub mod Cuts
