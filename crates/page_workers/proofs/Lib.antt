pub mod RunLemmas
pub mod TryLemmas
pub mod WentLemmas
pub mod JobLaws
