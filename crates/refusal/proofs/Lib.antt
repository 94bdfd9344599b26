pub mod Causes
pub mod Number
