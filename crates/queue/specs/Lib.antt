pub mod Told
pub mod Steps
pub mod Calls
pub mod Inner
