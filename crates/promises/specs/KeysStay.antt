-- Which calls aim at a key, and which answers hand it out.
use Rattle.std.specs.Prelude.{◌≡◌, ℕ}
use Rattle.queue.specs.Told.{Told, Hands}
use Rattle.delay_queue.specs.declared.Call.{Call}
use Rattle.delay_queue.specs.declared.Call.TheVariants as C

-- the call is a reset or a remove of k, or one that takes every timer, as format and clear do
abbrev pub Aims : ℕ → Call → Type 0
Aims k (C.Format n turn) = Unit {0}
Aims k (C.Insert value when period) = ⊥
Aims k (C.Reset key when) = key ≡ k
Aims k (C.Remove key) = key ≡ k
Aims k (C.Poll now) = ⊥
Aims k (C.PollSome now limit) = ⊥
Aims k C.Wake = ⊥
Aims k C.Length = ⊥
Aims k C.Clear = Unit {0}

-- the answer hands out the timer of k: "`out key value deadline moves drains`"
abbrev pub HandsKey : ℕ → Told → Type 0
HandsKey k x = (value : ℕ) × (deadline : ℕ) × (moves : ℕ) × (drains : ℕ) × (Hands x k value deadline moves drains)
