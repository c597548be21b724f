-- A store with its journal: what a step does, what it writes, and the journal of a run.
pub mod Journal
