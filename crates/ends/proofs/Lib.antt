pub mod Choosing
pub mod Opening
pub mod Ending
pub mod Closing
