pub mod Part
pub mod Workspace
pub mod Most
pub mod Blocks
