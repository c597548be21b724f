-- What format makes is sound and fresh, and its number is that of the table.
use mathlib.Core.Path.{◌≡◌, refl, sym, ap, ◌∙◌, fun_ext}
use mathlib.Core.Logic.{◌≢◌, by_cases}
use mathlib.Core.List.{List, []}
use Prim.Native.Nat.{ℕ, ◌+◌, ◌*◌, ◌≤◌, ◌<◌}
use native.Mathlib.Decide.{dec_lt}
use native.Mathlib.Omega.{arith}
use lib.ListN.{length, replicate, get_or-replicate}
use borrow.Author.Tests.{lt-ltb, le-ltb}
use Rattle.row.proofs.laws.Rows.{row_none}
use Rattle.links.specs.Lists.{Mem, nobody, change}
use Rattle.links.proofs.laws.Lists.{change_other}
use Rattle.links.specs.Links.{at}
use Rattle.places.specs.Places.{slot_place, parking, expired, free}
use Rattle.places.specs.Words.{PlaceWords}
use Rattle.places.specs.Format.{over, range, formatted}
use Rattle.places.proofs.laws.Format.{over_at, over_kept, length_over, format_kept, format_whole, format_lists}
use Rattle.places.specs.Whole as places
use Rattle.places.proofs.laws.Whole as place_laws
use Rattle.wheel.specs.declared.Wheel.{Wheel}
use Rattle.wheel.specs.Occupied.{filled, flags}
use Rattle.wheel.specs.Words.{wheel_words}
use Rattle.queue.specs.declared.Answer.{Answer}
use Rattle.queue.specs.declared.Answer.TheVariants as A
use Rattle.queue.specs.Told.{told}
use Rattle.records.proofs.laws.View.{view_eq}
use Rattle.records.specs.Slices.{slices_of, value_at, period_at, Fits}
use Rattle.records.specs.Words.{QueueWords, queue_words, words, slices, Sound}
use Rattle.records.specs.Format.{InRange, FormatNo, Makes}
use Rattle.delay_queue.specs.Claims.{first, Formatted, FormatClaim}
use Rattle.delay_queue.proofs.laws.Back.{GivesBack}

-- ---- n words become x

module _ (n x : ℕ) (l : List ℕ) where
  pub over_first : n ≤ length l → at (over n (λ j. x) l) ≡ first n x (at l)
  unfolding first
  over_first h =
      fun_ext (λ i.
      by_cases (dec_lt i n)
      (λ g. rw (lt-ltb i n g) (over_at n (λ j. x) l h i g))
      (λ g. rw (le-ltb i n (omega arith)) ((over_kept n n (λ j. x) l (omega arith)).past i (omega arith))))

-- two words a record
module _ (n x : ℕ) (l : List ℕ) (h : 2 * n ≤ length l) where
  pairs_first : (g : ℕ → ℕ) → ((i : ℕ) → i < n → g i < 2 * n) → ((i : ℕ) → n ≤ i → 2 * n ≤ g i)
      → (λ i. at (over (2 * n) (λ j. x) l) (g i)) ≡ first n x (λ i. at l (g i))
  unfolding first
  pairs_first g in_it past =
      fun_ext (λ i.
      ap (λ f. f (g i)) (over_first (2 * n) x l h)
      ∙ by_cases (dec_lt i n)
      (λ k. rw (lt-ltb i n k, lt-ltb (g i) (2 * n) (in_it i k)))
      (λ k. rw (le-ltb i n (omega arith), le-ltb (g i) (2 * n) (past i (omega arith)))))

  values_first : value_at (over (2 * n) (λ j. x) l) ≡ first n x (value_at l)
  values_first = pairs_first (λ i. 2 * i) (λ i k. omega arith) (λ i k. omega arith)

  periods_first : period_at (over (2 * n) (λ j. x) l) ≡ first n x (period_at l)
  periods_first = pairs_first (λ i. 2 * i + 1) (λ i k. omega arith) (λ i k. omega arith)

-- ---- the store

module _ (s : QueueWords) {n turn : ℕ} (F : Fits (slices s) n) (T : InRange turn) where
  abbrev made : PlaceWords
  made = formatted n s.wheel.places.links.nexts s.wheel.places.links.prevs s.wheel.places.links.marks

  abbrev new : QueueWords
  new = queue_words (wheel_words 0 (replicate 6 0) made) (over (2 * n) (λ i. 0) s.values) (over n (λ i. 0) s.deadlines)
      (over n (λ i. turn) s.turns) nobody 0

  small : n ≤ nobody
  small = omega arith

  whole : places.Whole made
  whole = format_whole n _ _ _ F.some small F.room.links

  is : places.lists made ≡ change (λ p. []) free (range n 0)
  is = format_lists n _ _ _ F.some small F.room.links

  -- no list of timers has a member
  empty : (p : ℕ) → p < free → places.lists made p ≡ []
  empty p h = ap (λ L. L p) is ∙ change_other (λ q. []) free (range n 0) p (omega arith)

  nobody_in : (p x : ℕ) → p < free → Mem x (places.lists made p) → ⊥
  nobody_in p x h m = rw (empty p h) at m

  sized : made.tops.n ≡ n
  unfolding formatted
  sized = refl

  all_free : (i : ℕ) → i < n → at made.links.marks i ≡ free
  unfolding formatted
  all_free i h = over_at n (λ j. free) _ F.room.links.marks i h

  new_sound : Sound new
  new_sound =
      record {
        standing = record {
          fits = record {
            some = rw sized F.some;
            few = rw sized F.few;
            room = record {
              values = omega (arith, sized, length_over (2 * n) (λ i. 0) s.values);
              deadlines = omega (arith, sized, length_over n (λ i. 0) s.deadlines);
              links = place_laws.room whole;
              turns = omega (arith, sized, length_over n (λ i. turn) s.turns);
            };
          };
          whole = record {
            places = whole;
            occupied = record {
              six = refl;
              row = λ k hk.
                  get_or-replicate {A = ℕ} 6 k 0 0 hk
                  ∙ sym (row_none (flags (places.lists made) k) 64 (λ j hj. ap filled (empty (slot_place k j) (omega arith))));
            };
          };
          turns = λ i h. let e : at (over n (λ j. turn) s.turns) i ≡ turn = over_at n
              (λ j. turn) s.turns F.room.turns i (omega (arith, sized)) in (omega arith, omega arith);
          retired = λ i h d z. absurd (omega (arith, all_free i (omega (arith, sized))));
        };
        rule = record {
          free = λ _. record {
            wheel = λ p x h m. absurd (nobody_in p x (omega arith) m);
            parked = λ x m. absurd (nobody_in parking x (omega arith) m);
            expired = λ x m. absurd (nobody_in expired x (omega arith) m);
          };
          inside = λ d. absurd (d refl);
        };
        no_now = λ _. refl;
      }

  pub formats : {s' : QueueWords} → Makes n turn (slices s) s' → {a : Answer} → a ≡ A.Done → Formatted s n turn a s'
  formats {s'} M {a} e =
      let q : s' ≡ new = λ i. queue_words (M.wheel i) (M.values i) (M.deadlines i) (M.turns i) (M.hand i) (M.until i) in
      rw q (record {
        told = ap told e;
        sound = new_sound;
        view = view_eq sized refl is (values_first n 0 s.values F.room.values) (periods_first n 0 s.values F.room.values)
            (over_first n 0 s.deadlines F.room.deadlines) (over_first n turn s.turns F.room.turns);
        kept = record {
          links = format_kept n _ _ _ F.some small F.room.links;
          values = over_kept (2 * n) (2 * n) (λ i. 0) s.values (omega arith);
          deadlines = over_kept n n (λ i. 0) s.deadlines (omega arith);
          turns = over_kept n n (λ i. turn) s.turns (omega arith);
        };
      })

-- ---- the call

module _ (s : QueueWords) (n turn : ℕ) where
  pub format_no : {r : ℕ} {a : Answer} {s' : QueueWords} → FormatNo (Fits (slices s) n) (InRange turn) r → r ≢ 0 → a ≡ A.No r → s' ≡ s
      → FormatClaim s n turn a s'
  format_no {r} N d e q =
      record {
        short = λ f. record { told = ap told (e ∙ ap A.No (N.short f)); same = q };
        outside = λ F f. record { told = ap told (e ∙ ap A.No (N.outside F f)); same = q };
        done = λ F T. absurd (d (N.near F T));
      }

  pub format_done : {r : ℕ} {a : Answer} {s' : QueueWords} → FormatNo (Fits (slices s) n) (InRange turn) r → r ≡ 0
      → Makes n turn (slices s) s' → a ≡ A.Done → FormatClaim s n turn a s'
  format_done N z M e =
      let t = N.taken z in
      record { short = λ f. absurd (f t.0); outside = λ F f. absurd (f t.1); done = λ F T. formats s F T M e }

pub format_refused : (vs ds ns ps ts ms : List ℕ) {n turn r : ℕ} {a : Answer} {w w' : Wheel} {hh hh' : List (List ℕ)}
    → FormatNo (Fits (slices_of vs ds ns ps ts ms) n) (InRange turn) r → r ≢ 0 → GivesBack a w' hh' (A.No r) w hh
    → FormatClaim (words w hh vs ds ns ps ts ms) n turn a (words w' hh' vs ds ns ps ts ms)
format_refused vs ds ns ps ts ms {n} {turn} {w = w} {hh = hh} N d G =
    format_no (words w hh vs ds ns ps ts ms) n turn N d G.0 (λ i. words (G.1 i) (G.2 i) vs ds ns ps ts ms)
