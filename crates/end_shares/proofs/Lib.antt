pub mod Turning
pub mod Counting
pub mod Accepting
pub mod Sharing
pub mod Talking
pub mod Serving
