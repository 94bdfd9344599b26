pub mod Next
pub mod Seen
pub mod Parts
pub mod Fill
