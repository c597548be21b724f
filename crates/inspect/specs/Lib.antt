-- The program `inspect`. `Text` says what it writes.
pub mod Text
