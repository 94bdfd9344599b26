pub mod Promise
pub mod Bounds
pub mod Pair
