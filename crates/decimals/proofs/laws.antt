pub mod Decimals
pub mod Spacing
pub mod Plain
pub mod Number
