pub mod Meetings
pub mod Looking
pub mod Refusing
pub mod Attaching
pub mod Noting
pub mod Pairing
pub mod Stepping
pub mod RawLemmas
