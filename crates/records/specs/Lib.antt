pub mod View
pub mod Slices
pub mod Records
pub mod Words
pub mod Store
pub mod Format
pub mod Inner
pub mod Found
