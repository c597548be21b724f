-- The gauge of lateness. `Gauge` says what it becomes, `Light` what it reads, `Bits` what is shown of it; `Exactly`, `Many`
-- and `OnTime` are the words of the promises.
pub mod Gauge
pub mod Light
pub mod Bits
pub mod Exactly
pub mod Many
pub mod OnTime
