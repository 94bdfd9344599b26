pub mod Laws
pub mod Cover
pub mod Threshold
