-- What C and Rust are told: the words of a store, and what a call, a run, the journal say over them.
pub mod Face
pub mod Inner
