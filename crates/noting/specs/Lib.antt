-- The bench with a journal. `Means` says what a line asks, `Line` and `Feed` what the functions claim, `Replies` what lines are answered
-- with and what they write to the journal.
pub mod Means
pub mod Line
pub mod Feed
pub mod Replies
