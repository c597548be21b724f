-- The six slices of a store, and when they are long enough.
use Rattle.std.specs.Prelude.{List, ℕ, ◌+◌, ◌*◌, ◌≤◌, ◌<◌, length, set}
use Rattle.links.specs.Links.{Links, links, at}
use Rattle.links.specs.Links as linked

pub record Slices : Type 0 where
  pub values : List ℕ
  pub deadlines : List ℕ
  pub links : Links
  pub turns : List ℕ

abbrev pub slices_of : List ℕ → List ℕ → List ℕ → List ℕ → List ℕ → List ℕ → Slices
slices_of vs ds ns ps ts ms = record { values = vs; deadlines = ds; links = links ns ps ms; turns = ts }

-- a record has two words of `values`: its value and, behind it, its period
abbrev pub value_at : List ℕ → ℕ → ℕ
value_at vs i = at vs (2 * i)

abbrev pub period_at : List ℕ → ℕ → ℕ
period_at vs i = at vs (2 * i + 1)

-- they become x and y
abbrev pub given : List ℕ → ℕ → ℕ → ℕ → List ℕ
given vs i x y = set (set vs (2 * i) x) (2 * i + 1) y

-- none of them is too short for n records
pub record Room (n : ℕ) (l : Slices) : Type 0 where
  pub values : 2 * n ≤ length l.values
  pub deadlines : n ≤ length l.deadlines
  pub links : linked.Room n l.links
  pub turns : n ≤ length l.turns

-- 02 [5]: "Raise N to 65,535; record number 65,535 means nobody." 01 had "N from 1 to 1,024"
abbrev pub limit : ℕ
limit = 65535

-- number 1 is not given: N is in range, and no lent slice is too short for N
pub record Fits (l : Slices) (n : ℕ) : Type 0 where
  pub some : 0 < n
  pub few : n ≤ limit
  pub room : Room n l
