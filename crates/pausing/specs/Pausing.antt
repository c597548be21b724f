-- Words of the promises of request 10: answers with summed counts, "not yet", and polls that are taken. What stands between quotation marks
-- is its text.
use Rattle.std.specs.Prelude.{◌≡◌, ◌≢◌, ℕ, ◌+◌, ◌≤◌}
use Rattle.links.specs.Lists.{nobody}
use Rattle.records.specs.View.{View}
use Rattle.queue.specs.Told.{Told}
use Rattle.queue.specs.Told as T

-- "summed counts": an answer with m moves and n drains more
abbrev pub added : ℕ → ℕ → Told → Told
added m n T.ok = T.ok
added m n (T.key k) = T.key k
added m n (T.gone v d) = T.gone v d
added m n (T.out k v d i j) = T.out k v d (m + i) (n + j)
added m n (T.last k v d i j) = T.last k v d (m + i) (n + j)
added m n (T.none i j) = T.none (m + i) (n + j)
added m n (T.yet i j) = T.yet (m + i) (n + j)
added m n (T.wake t) = T.wake t
added m n T.never = T.never
added m n (T.len k) = T.len k
added m n (T.no k) = T.no k

-- "not yet"
abbrev pub SaysYet : Told → Type 0
SaysYet x = (m n : ℕ) × (x ≡ T.yet m n)

-- a poll at now is refused neither with 12 nor with 7
pub record PollTaken (v : View) (now : ℕ) : Type 0 where
  pub same : v.hand ≢ nobody → now ≡ v.until
  pub later : v.hand ≡ nobody → v.elapsed ≤ now
