pub mod IntervalLemmas
pub mod WrittenForm
