pub mod Block
pub mod Before
pub mod Tested
