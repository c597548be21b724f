-- Decimals and numbers split by one space. `Text` has the definitions.
pub mod Text
pub mod Number
