pub mod LineLemmas
pub mod ReadLines
pub mod WrittenLines
pub mod ScriptLemmas
