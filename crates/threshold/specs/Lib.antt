pub mod Promise
pub mod Outcome
pub mod Words
pub mod Known
