pub mod Once
pub mod Acting
