pub mod Regions
pub mod Covers
pub mod Accesses
