pub mod Widths
pub mod Quotients
pub mod Starts
pub mod Levels
pub mod Blocks
