pub mod Marking
pub mod Tail
pub mod Score
pub mod Difference
