-- no file has a byte from 2^63 on
use Rattle.std.proofs.Common.{◌-◌, ◌^◌, ◌<◌}
use Rattle.journaled.proofs.copied.Given as goal

abbrev pub invariant-loop-buf : goal.invariant-loop-buf
invariant-loop-buf l = l.at < 2 ^ 64

abbrev pub decreases-loop-buf : goal.decreases-loop-buf
decreases-loop-buf l = 2 ^ 64 - l.at
