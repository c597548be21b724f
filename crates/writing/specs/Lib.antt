-- What writers leave.
pub mod Writing
