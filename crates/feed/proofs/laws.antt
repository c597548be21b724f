pub mod Wrote
pub mod NextLines
pub mod Serving
pub mod Once
