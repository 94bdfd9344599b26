pub mod Ends
pub mod Result
