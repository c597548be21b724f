-- The state that goes in and out by value, from the parts that the functions below the public calls work on.
use Rattle.std.specs.Prelude.{List, ℕ}
use Rattle.places.specs.Words.{tops_of}
use Rattle.wheel.specs.declared.Wheel.{Wheel}

-- the parts put together again
abbrev pub wheel_of : ℕ → List ℕ → List ℕ → ℕ → ℕ → Wheel
wheel_of e occ tops h u = record { elapsed = e; occupied = occ; tops = tops_of tops; hand = h; until = u }
