pub mod Face
pub mod Once
