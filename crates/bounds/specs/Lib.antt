pub mod Workspace
pub mod Greatest
pub mod Blocks
