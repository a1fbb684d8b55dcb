pub mod Copies
pub mod Input
pub mod Plain
