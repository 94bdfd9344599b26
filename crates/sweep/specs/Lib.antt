pub mod Row
pub mod Goal
pub mod Settled
pub mod Progress
