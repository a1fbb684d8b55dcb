pub mod Turns
pub mod Clients
pub mod Servers
pub mod Shares
