pub mod Number
pub mod Refusal
