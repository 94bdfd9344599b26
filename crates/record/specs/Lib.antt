pub mod Format
pub mod Reading
pub mod Writing
pub mod RoundTrip
