pub mod Engine
pub mod Equal
pub mod Cover
pub mod Threshold
