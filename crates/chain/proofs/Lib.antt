pub mod First
pub mod Last
pub mod Entry
pub mod Links
pub mod Listed
pub mod Unlinking
pub mod Stretches
