-- What the writers work with: room.
use Rattle.std.specs.Prelude.{List, ℕ, replicate}

-- room for two entries, before anything is written
unfoldable pub blank : List ℕ
blank = replicate 36 0
