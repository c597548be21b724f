pub mod Writing
pub mod Inspect
pub mod Once
