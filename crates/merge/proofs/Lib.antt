pub mod Word
pub mod Merging
pub mod Laws
pub mod Known
