pub mod Claims
pub mod NoStore
pub mod Free
