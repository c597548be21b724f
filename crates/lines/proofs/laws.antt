pub mod Parts
pub mod Lines
pub mod Once
pub mod Passed
pub mod Running
