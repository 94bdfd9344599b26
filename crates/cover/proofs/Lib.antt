pub mod Known
pub mod Walking
pub mod Entries
pub mod Accepted
