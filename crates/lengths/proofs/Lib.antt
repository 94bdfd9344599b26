pub mod Samples
pub mod Stretches
pub mod Choice
