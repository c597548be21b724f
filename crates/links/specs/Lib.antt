pub mod Lists
pub mod Segments
pub mod Family
pub mod Count
pub mod Walk
pub mod Judge
pub mod Links
pub mod Whole
