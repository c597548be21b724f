-- The records of a list.
use Rattle.std.specs.Prelude.{ℕ, zero, suc, List, [], ◌∷◌, ◌==◌, if◌then◌else◌, slice_index_or}
use Rattle.links.specs.Lists.{nobody}
use Rattle.contents.specs.declared.Members.{Members}

-- From i on, as nexts links them: until nobody comes, or n have come. Behind what is no record nobody comes.
abbrev pub chain : List ℕ → ℕ → ℕ → List ℕ
chain nexts zero i = []
chain nexts (suc n) i = if i == nobody then [] else (i ∷ chain nexts n (slice_index_or nexts i nobody))

-- those still to come
abbrev pub rest : Members → List ℕ
rest m = chain m.nexts.now m.left m.at
