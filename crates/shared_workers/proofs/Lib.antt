pub mod WentLemmas
pub mod AnswerLemmas
