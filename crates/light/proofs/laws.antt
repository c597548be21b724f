pub mod Writing
pub mod Text
pub mod Once
pub mod Light
