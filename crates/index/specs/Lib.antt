pub mod Indexed
pub mod Built
