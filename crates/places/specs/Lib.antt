pub mod Places
pub mod Heads
pub mod Words
pub mod Judge
pub mod Whole
pub mod Format
