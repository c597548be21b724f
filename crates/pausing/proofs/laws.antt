pub mod Pausing
pub mod Works
