-- One record's turn and place, before and after.
use Rattle.std.specs.Prelude.{ℕ, ◌+◌}
use Rattle.links.specs.Lists.{change}
use Rattle.places.specs.Places.{free, put}
use Rattle.records.specs.View.{View, with_lists, with_turn, upd}

-- ---- the lists lose members, or one record is freed, or placed

-- "A record that leaves (polled, removed, cleared) has its turn raised by one and is taken next."
abbrev pub raised : ℕ → View → View
raised i v = with_lists (change v.lists free (put free i (v.lists free))) (with_turn (upd v.turn i (v.turn i + 1)) v)
