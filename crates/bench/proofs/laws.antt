pub mod Hearing
pub mod Line
pub mod Once
