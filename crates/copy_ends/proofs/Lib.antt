pub mod Accepted
pub mod Turning
pub mod Sizes
pub mod Serving
pub mod Talking
pub mod Opened
mod Sending
