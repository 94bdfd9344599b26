pub mod Word
pub mod Retired
pub mod Sequence
