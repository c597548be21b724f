-- The bench over an input. `Replies` says what lines are answered with, `Feed` what the functions claim, `Serving` what a whole run writes.
pub mod Replies
pub mod Feed
pub mod Parts
pub mod Serving
