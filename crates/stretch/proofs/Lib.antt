pub mod Fillable
pub mod Sides
