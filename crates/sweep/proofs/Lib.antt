pub mod Row
pub mod Told
pub mod Passed
pub mod Bounds
pub mod Laying
pub mod Step
pub mod Settled
pub mod Turn
