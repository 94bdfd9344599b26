pub mod Reached
pub mod Serving
