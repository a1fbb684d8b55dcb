pub mod Ordering
pub mod Tellable
pub mod Following
pub mod NewLineLemmas
