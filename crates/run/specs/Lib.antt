pub mod Groups
pub mod Run
