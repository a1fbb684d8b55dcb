pub mod AskedLemmas
pub mod FormLemmas
pub mod Slots
pub mod Rows
pub mod Turns
pub mod Agreement
pub mod Found
