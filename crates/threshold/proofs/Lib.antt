pub mod Known
pub mod Words
pub mod Decided
pub mod Telling
pub mod Refusal
pub mod Exchange
