pub mod Getting
pub mod Putting
pub mod Serving
