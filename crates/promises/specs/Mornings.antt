-- Document 01's starred mornings, "gathered as a single list under a single claim".
use Rattle.std.specs.Prelude.{◌≡◌, List, [], ◌∷◌, ℕ}
use Rattle.times.specs.Times.{level_of}
use Rattle.places.specs.Places.{parking, free}
use Rattle.queue.specs.declared.Answer.{Answer}
use Rattle.queue.specs.Told.{told}
use Rattle.queue.specs.Told as T
use Rattle.records.specs.Records.{key_of, Names}
use Rattle.records.specs.Words.{QueueWords, holding, AtRest, elapsed, view, Sound}
use Rattle.delay_queue.specs.Claims.{InsertClaim, ResetClaim, WakeClaim, PollClaim, PollSomeClaim}
use Rattle.promises.specs.Quiet.{Quiet}

-- ---- the sentences

pub data Morning : Type 0 where
  level : (e w k : ℕ) → Morning
  refused : (e w number : ℕ) → Morning
  taken : (e w : ℕ) → Morning
  wakes : (e w t : ℕ) → Morning
  polls : (e w now moves drains : ℕ) → Morning

abbrev pub Holds : Morning → Type 0
-- "At e=63, 64 is 1."
Holds (level e w k) = level_of e w ≡ k
-- "e=0, w=68719476736: number 4.": an insert of w on any sound store with no poll in hand and a record free, and a reset to w of any pending timer
Holds (refused e w number) =
    (s t : QueueWords) (a : Answer) → Sound s → AtRest s → elapsed s ≡ e
    → ((value period r : ℕ) (l : List ℕ) → (view s).lists free ≡ r ∷ l → InsertClaim s value w period a t → (told a ≡ T.no number) × (t ≡ s))
    × ((key r p : ℕ) → Names (view s) key r p → ResetClaim s key w a t → (told a ≡ T.no number) × (t ≡ s))
-- 02 [12]: "The e=1, w=2^36 case is now accepted.": by such an insert and such a reset
Holds (taken e w) =
    (s t : QueueWords) (a : Answer) → Sound s → AtRest s → elapsed s ≡ e
    → ((value period r : ℕ) (l : List ℕ) → (view s).lists free ≡ r ∷ l → InsertClaim s value w period a t
    → told a ≡ T.key (key_of (view s) r))
    × ((key r p : ℕ) → Names (view s) key r p → ResetClaim s key w a t → told a ≡ T.ok)
-- "4101 inserted at 0 wakes at 4096"
Holds (wakes e w t) =
    (s s' : QueueWords) (a b : Answer) (value period : ℕ) → Quiet s e → InsertClaim s value w period a s' → WakeClaim s' b
    → told b ≡ T.wake t
-- "poll(4096) gives none, 2 moves, 2 drains", after that insert; "elapsed becomes now"
Holds (polls e w now m n) =
    (s s' s'' : QueueWords) (a b : Answer) (value period : ℕ) → Quiet s e → InsertClaim s value w period a s' → PollClaim s' now b s''
    → (told b ≡ T.none m n) × (elapsed s'' ≡ now)

-- "- * Levels at e=0: 63 is 0; 64 is 1; 4095 is 1; 4096 is 2; 1073741824 is 5; 68719476735 is 5. At e=63, 64 is 1. At e=4095, 4096 is 2.
-- - * e=0, w=68719476736: number 4. e=1, same w: number 5.", which 02 [12] takes: "The e=1, w=2^36 case is now accepted."
-- "- * 4101 inserted at 0 wakes at 4096; poll(4096) gives none, 2 moves, 2 drains."
abbrev pub starred : List Morning
starred =
    level 0 63 0
    ∷ level 0 64 1
    ∷ level 0 4095 1
    ∷ level 0 4096 2
    ∷ level 0 1073741824 5
    ∷ level 0 68719476735 5
    ∷ level 63 64 1
    ∷ level 4095 4096 2
    ∷ refused 0 68719476736 4
    ∷ taken 1 68719476736
    ∷ wakes 0 4101 4096
    ∷ polls 0 4101 4096 2 2
    ∷ []

-- every one of a list
abbrev pub AllOf : (Morning → Type 0) → List Morning → Type 0
AllOf P [] = Unit {0}
AllOf P (x ∷ l) = P x × AllOf P l

-- ---- the block is crossed

-- 02 [12]: at e=1 a timer for 2^36 is taken and parked; it wakes at the block's end, and there "each entry is moved once, to level 5",
-- and then down: poll(2^36) hands it out with 6 moves, 6 drains, and "elapsed becomes that start". With limit 0 (02 [10]) that poll stops
-- before the first move, and the parking list is in hand
pub record Crosses (s' : QueueWords) (a : Answer) (value : ℕ) : Type 0 where
  pub key : ℕ
  pub taken : told a ≡ T.key key
  pub timer : ℕ
  pub parked : Names (view s') key timer parking
  pub wakes : (b : Answer) → WakeClaim s' b → told b ≡ T.wake 68719476736
  pub out : (b : Answer) (s'' : QueueWords) → PollClaim s' 68719476736 b s''
      → (told b ≡ T.out key value 68719476736 6 6) × (elapsed s'' ≡ 68719476736)
  pub paused : (b : Answer) (s'' : QueueWords) → PollSomeClaim s' 68719476736 0 b s''
      → (told b ≡ T.yet 0 0) × (s'' ≡ holding parking 68719476736 s')
