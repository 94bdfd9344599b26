pub mod First
pub mod Chain
pub mod Listed
pub mod Unlinked
pub mod Stretches
