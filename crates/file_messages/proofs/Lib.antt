pub mod ListedDescriptors
pub mod Faults
pub mod WrittenMessages
pub mod WrittenCopies
