-- The inspector of another machine's log. `Text` says what a line says, `Log` what an entry asks of the log before it, `Verdict` what is to
-- be said of a log; `Words` has the claim of `inspect_line`, `Parts` what its parts find, `Promises` the words of what follows.
pub mod Text
pub mod Log
pub mod Verdict
pub mod Words
pub mod Parts
pub mod Promises
