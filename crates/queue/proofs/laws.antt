pub mod Calls
pub mod Polls
pub mod Resumed
