pub mod Hash
pub mod HashList
