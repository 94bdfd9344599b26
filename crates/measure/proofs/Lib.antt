pub mod Blocks
pub mod Pairs
pub mod Longer
pub mod Before
