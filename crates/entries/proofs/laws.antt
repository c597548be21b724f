pub mod Writing
pub mod Room
pub mod Reading
pub mod Inverse
pub mod More
pub mod Bytes
pub mod Steps
pub mod Only
