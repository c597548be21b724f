-- The journal's bytes. `Entries` says what a step's bytes are, `Reading` what bytes say, `Writing` what the writers work with.
pub mod Entries
pub mod Reading
pub mod Writing
