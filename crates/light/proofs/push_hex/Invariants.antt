-- digit after digit is written, the first first
use Rattle.std.proofs.Common.{◌+◌, ◌-◌}
use Rattle.writing.proofs.laws.Writing.{Digits}
use Rattle.light.specs.Light.{digit_of}
use Rattle.light.proofs.push_hex.Given as goal

abbrev pub invariant-loop-k : goal.invariant-loop-k
invariant-loop-k l = Digits digit_of 16 l.initial.out l.at 16 l.n l.out (l.at + l.k) (16 - l.k) l.p
