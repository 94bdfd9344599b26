pub mod Words
pub mod Tiles
pub mod Lines
pub mod Records
pub mod Engine
pub mod Input
pub mod Known
