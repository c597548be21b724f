pub mod Back
pub mod Format
