pub mod Promise
pub mod Walked
pub mod Known
