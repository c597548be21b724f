pub mod Boards
pub mod Once
pub mod Promises
pub mod Reading
pub mod Shown
pub mod Until
