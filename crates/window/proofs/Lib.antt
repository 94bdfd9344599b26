pub mod Congruence
pub mod Hash
pub mod HashList
