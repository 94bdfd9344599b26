pub mod Appended
pub mod Decimal
pub mod Signed
pub mod Spaced
