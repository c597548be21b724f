-- How often a key is given and handed out over a run.
use Rattle.std.specs.Prelude.{cond, List, [], ◌∷◌, ℕ, ◌+◌, ◌*◌, eqb}
use Rattle.queue.specs.Told.{Told, told}
use Rattle.queue.specs.Told as T
use Rattle.records.specs.Words.{QueueWords}
use Rattle.promises.specs.Runs.{Asked, Runs, rest, next, resetting}

-- ---- what is said

-- the answer is "`key K`" with K = k, and how often a run answers so
abbrev pub keyed : ℕ → Told → ℕ
keyed k T.ok = 0
keyed k (T.key j) = cond (eqb j k) 1 0
keyed k (T.gone v d) = 0
keyed k (T.out j v d m n) = 0
keyed k (T.last j v d m n) = 0
keyed k (T.none m n) = 0
keyed k (T.yet m n) = 0
keyed k (T.wake t) = 0
keyed k T.never = 0
keyed k (T.len n) = 0
keyed k (T.no n) = 0

abbrev pub keys : ℕ → List Asked → ℕ
keys k [] = 0
keys k (x ∷ l) = keyed k (told x.answer) + keys k l

-- the answer is "`out key ..`" with k, and how often a run answers so
abbrev pub outed : ℕ → Told → ℕ
outed k T.ok = 0
outed k (T.key j) = 0
outed k (T.gone v d) = 0
outed k (T.out j v d m n) = cond (eqb j k) 1 0
outed k (T.last j v d m n) = cond (eqb j k) 1 0
outed k (T.none m n) = 0
outed k (T.yet m n) = 0
outed k (T.wake t) = 0
outed k T.never = 0
outed k (T.len n) = 0
outed k (T.no n) = 0

abbrev pub outs : ℕ → List Asked → ℕ
outs k [] = 0
outs k (x ∷ l) = outed k (told x.answer) + outs k l

-- how often the timer of k is set again by the polls of a run that hand it out
abbrev pub agains : ℕ → {s u : QueueWords} {l : List Asked} → Runs s l u → ℕ
agains k rest = 0
agains k (next {s} {t} {u} {x} {l} A R) = outed k (told x.answer) * resetting s (told x.answer) + agains k R
