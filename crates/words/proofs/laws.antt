pub mod Answers
pub mod Flags
pub mod Gauge
