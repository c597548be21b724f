pub mod Means
pub mod Line
pub mod Once
pub mod NextLines
pub mod Replies
pub mod Running
