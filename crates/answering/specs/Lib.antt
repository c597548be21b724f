-- Answers to lines. `Text` has all that the public claims say, and the files below it what follows from that.
pub mod Text
pub mod Parts
