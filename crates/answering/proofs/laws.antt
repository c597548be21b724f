pub mod Answering
pub mod Writing
pub mod Examples
