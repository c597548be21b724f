pub mod Boards
pub mod Claims
pub mod Promises
pub mod Reads
pub mod Shown
