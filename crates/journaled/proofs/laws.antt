pub mod Used
pub mod Recovered
