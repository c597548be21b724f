-- Which sizes the formats of a run ask for.
use Rattle.std.specs.Prelude.{ℕ}
use Rattle.delay_queue.specs.declared.Call.{Call}
use Rattle.delay_queue.specs.declared.Call.TheVariants as C

-- the records that a format asks for; 0 for any other call
abbrev pub size_of : Call → ℕ
size_of (C.Format n turn) = n
size_of (C.Insert value when period) = 0
size_of (C.Reset key when) = 0
size_of (C.Remove key) = 0
size_of (C.Poll now) = 0
size_of (C.PollSome now limit) = 0
size_of C.Wake = 0
size_of C.Length = 0
size_of C.Clear = 0
