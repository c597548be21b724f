pub mod Asking
pub mod Reading
pub mod Finding
pub mod Examples
