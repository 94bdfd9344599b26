pub mod Word
pub mod Sequence
