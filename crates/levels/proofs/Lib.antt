pub mod Keep
pub mod Row
