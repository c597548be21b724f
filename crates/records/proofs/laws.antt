pub mod Lent
pub mod View
pub mod Words
pub mod Inner
pub mod Found
pub mod Cases
pub mod Again
pub mod Format
