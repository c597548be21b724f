pub mod Floats
pub mod Noting
pub mod Reading
pub mod Latenesses
pub mod Examples
pub mod Handed
pub mod OnTime
