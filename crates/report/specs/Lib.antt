pub mod Words
pub mod Pair
pub mod Buffers
pub mod Written
pub mod Known
