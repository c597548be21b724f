-- Insert, reset and remove, put together from one-record steps.
use mathlib.Core.Path.{◌≡◌, refl, sym, ap, ◌∙◌}
use mathlib.Core.Logic.{◌≢◌}
use mathlib.Core.List.{List, [], ◌∷◌, nil≢cons}
use Prim.Native.Nat.{ℕ, ◌+◌, ◌*◌, ◌^◌, ◌≤◌, ◌<◌}
use native.Mathlib.Omega.{arith}
use lib.ListN.{length}
use Rattle.links.specs.Lists.{nobody}
use Rattle.links.specs.Links.{at}
use Rattle.places.specs.Places.{free}
use Rattle.places.proofs.laws.Heads.{head_free}
use Rattle.places.specs.Words.{head_at}
use Rattle.places.proofs.laws.Whole as place_laws
use Rattle.wheel.specs.Words.{WheelWords, Pops, CanLeave, Leaves}
use Rattle.queue.specs.declared.Answer.{Answer}
use Rattle.queue.specs.declared.Answer.TheVariants as A
use Rattle.queue.specs.Told.{Told, told, no}
use Rattle.queue.specs.Told as T
use Rattle.records.specs.View.{View, with_value, with_period, upd}
use Rattle.records.specs.Records.{packed, Names, Near, taken, left, placed, freed}
use Rattle.records.specs.Words.{QueueWords, queue_words, count, elapsed, mark_of, view, AtRest, Sound}
use Rattle.records.proofs.laws.Words.{past_then}
use Rattle.queue.specs.Calls.{Answered, InsertOn, ResetOn, RemoveOn}
use Rattle.records.specs.Inner.{StandsBut, GoesBut, Goes, LooseAt, CanPlace, PlacesTo, CanFree, LeavesTo}
use Rattle.records.proofs.laws.Inner.{rests, sounds, goes_taken, goes_given, can_leave, goes_left, goes_placed, goes_freed}
use Rattle.records.specs.Slices.{value_at, given}
use Rattle.records.specs.Found.{DeadlineNo, KeyIs}
use Rattle.records.proofs.laws.Found.{key_names, names_key}

pub stands_then : {i j : ℕ} {s s₁ s₂ : QueueWords} {v : View} (f : View → View) → StandsBut i s v s₁ → StandsBut j s₁ (f (view s₁)) s₂
    → StandsBut j s (f v) s₂
stands_then f G H =
    record {
      standing = H.standing;
      view = H.view ∙ ap f G.view;
      size = H.size ∙ G.size;
      kept = past_then G.size G.kept H.kept;
    }

pub goes_then : {i j : ℕ} {s s₁ s₂ : QueueWords} {v : View} (f : View → View) → GoesBut i s v s₁ → GoesBut j s₁ (f (view s₁)) s₂
    → GoesBut j s (f v) s₂
goes_then f G H =
    record {
      sound = H.sound;
      view = H.view ∙ ap f G.view;
      size = H.size ∙ G.size;
      kept = past_then G.size G.kept H.kept;
    }

answered : {s : QueueWords} {v : View} {s' : QueueWords} {a : Answer} {t : Told} → AtRest s' → s'.until ≡ 0 → told a ≡ t → Goes s v s'
    → Answered s a t v s'
answered z u e G = record { told = e; sound = sounds G.sound z u; view = G.view; kept = G.kept }

-- ---- insert

module _ {s : QueueWords} (S : Sound s) (rest : AtRest s) (value when period : ℕ) where
  free_head : s.wheel.places.tops.free ≡ head_at s.wheel.places free
  free_head = sym (head_free s.wheel.places.tops s.wheel.places.heads)

  none_free : s.wheel.places.tops.free ≡ nobody → (view s).lists free ≡ []
  none_free z = place_laws.list_empty S.standing.whole.places free (sym free_head ∙ z)

  some_free : s.wheel.places.tops.free ≢ nobody → (r : ℕ) × (l : List ℕ) × ((view s).lists free ≡ r ∷ l)
  some_free d = let c = place_laws.list_cons S.standing.whole.places free (λ z. d (free_head ∙ z)) in (_, c.0, c.1)

  -- no record is free
  pub insert_full : s.wheel.places.tops.free ≡ nobody → InsertOn s value when period (A.No 3) s
  insert_full z =
      let e = none_free z in
      record {
        full = λ f. record { told = refl; same = refl };
        old = λ r l f. absurd (nil≢cons (sym e ∙ f));
        far = λ r l f. absurd (nil≢cons (sym e ∙ f));
        done = λ r l f. absurd (nil≢cons (sym e ∙ f));
      }

  module _ (some : s.wheel.places.tops.free ≢ nobody) {n : ℕ} (D : DeadlineNo (elapsed s) when n) where
    -- the deadline is refused
    pub insert_refused : n ≢ 0 → InsertOn s value when period (A.No n) s
    insert_refused d =
        let c = some_free some in
        record {
          full = λ f. absurd (nil≢cons (sym f ∙ c.2));
          old = λ r l f g. record { told = ap no (D.old g); same = refl };
          far = λ r l f g. record { told = ap no (D.far g); same = refl };
          done = λ r l f g. absurd (d (D.near g));
        }

    module _ (z : n ≡ 0) {item : ℕ} {t : WheelWords} (Q : Pops s.wheel free item t) where
      abbrev c : (r : ℕ) × (l : List ℕ) × ((view s).lists free ≡ r ∷ l)
      c = some_free some

      was : (view s).lists free ≡ item ∷ c.1
      was = let q = Q.some c.0 c.1 c.2 in c.2 ∙ ap (λ x. x ∷ c.1) (sym q.0)

      abbrev s₁ : QueueWords
      s₁ = queue_words t s.values s.deadlines s.turns s.hand s.until

      loose₁ : LooseAt s₁ item
      loose₁ = (Q.some item c.1 was).1

      G₁ : GoesBut item s (taken c.1 (view s)) s₁
      G₁ = goes_taken (rests S rest) was (Q.some item c.1 was).2

      pub item_below : item < count s
      item_below = omega (arith, loose₁.below, G₁.size)

      -- what the code asks on the way
      pub insert_words : (2 * item + 1 < length s.values) × (item < length s.turns) × (at s.turns item < 2 ^ 48)
      insert_words = (
        omega (arith, item_below),
        omega (arith, item_below),
        (S.standing.turns item item_below).1,
      )

      abbrev s₂ : QueueWords
      s₂ = queue_words t (given s.values item value period) s.deadlines s.turns s.hand s.until

      abbrev told_words : View → View
      told_words v = with_period (upd v.period item period) (with_value (upd v.value item value) v)

      G₂ : GoesBut item s (told_words (taken c.1 (view s))) s₂
      G₂ = goes_then told_words G₁ (goes_given G₁.sound item value period loose₁.below)

      near : Near (elapsed s₂) when
      near = let e : elapsed s₂ ≡ elapsed s = ap (λ v. v.elapsed) G₂.view in rw e (D.taken z).near

      pub insert_place : CanPlace t s.deadlines item when
      insert_place = record {
        whole = G₁.sound.standing.whole;
        item = loose₁;
        word = omega (arith, loose₁.below, G₁.sound.standing.fits.room.deadlines);
        near = near;
      }

      pub insert_done : (k : ℕ) → k ≡ packed (at s.turns item) item → {u : WheelWords} {ds : List ℕ}
          → PlacesTo t s.deadlines item when u ds
          → InsertOn s value when period (A.Key k) (queue_words u (given s.values item value period) ds s.turns s.hand s.until)
      insert_done k ek {u} {ds} P =
          let G₃ = goes_then (placed item when) G₂ (goes_placed G₂.sound loose₁ when near P) in
          record {
            full = λ f. absurd (nil≢cons (sym f ∙ was));
            old = λ r l f g. absurd (omega (arith, D.old g));
            far = λ r l f g. absurd (omega (arith, D.far g));
            done = λ r l f g.
                let e : item ∷ c.1 ≡ r ∷ l = sym was ∙ f in
                let a : item ≡ r = cc in
                let b : c.1 ≡ l = cc in
                rw (← a, ← b) (answered rest (S.no_now rest) (ap T.key ek) G₃);
          }

-- ---- reset and remove

pub find_room : {s : QueueWords} → Sound s → (count s ≤ length s.turns) × (count s ≤ length s.wheel.places.links.marks)
find_room S = (S.standing.fits.room.turns, S.standing.fits.room.links.marks)

-- a key names one record only, in one place
pub names_one : {s : QueueWords} → Sound s → {key i p j q : ℕ} → Names (view s) key i p → Names (view s) key j q → (i ≡ j) × (p ≡ q)
names_one {s} S {key} {i} {p} {j} {q} M N =
    let e : i ≡ j = M.number ∙ sym N.number in (
      e,
      sym (place_laws.member_mark S.standing.whole.places p i M.pending.member) ∙ ap (mark_of s) e
          ∙ place_laws.member_mark S.standing.whole.places q j N.pending.member,
    )

module _ {s : QueueWords} (S : Sound s) (rest : AtRest s) (key when : ℕ) where
  -- the key names nobody
  pub reset_dead : ((i : ℕ) → KeyIs (count s) s.turns s.wheel.places.links.marks key i → ⊥) → ResetOn s key when (A.No 6) s
  reset_dead h =
      record {
        dead = λ f. record { told = refl; same = refl };
        old = λ r p N. absurd (h r (names_key S key N));
        far = λ r p N. absurd (h r (names_key S key N));
        done = λ r p N. absurd (h r (names_key S key N));
      }

  pub remove_dead : ((i : ℕ) → KeyIs (count s) s.turns s.wheel.places.links.marks key i → ⊥) → RemoveOn s key (A.No 6) s
  remove_dead h = record { dead = λ f. record { told = refl; same = refl }; done = λ r p N. absurd (h r (names_key S key N)) }

  module _ {i : ℕ} (K : KeyIs (count s) s.turns s.wheel.places.links.marks key i) where
    abbrev M : Names (view s) key i (mark_of s i)
    M = key_names S key K

    pub found_leaves : CanLeave s.wheel i
    found_leaves = can_leave S.standing M.pending

    pub found_words : (2 * i < length s.values) × (i < length s.deadlines) × (i < length s.turns)
    found_words = (omega arith, omega arith, omega arith)

    module _ {n : ℕ} (D : DeadlineNo (elapsed s) when n) where
      pub reset_refused : n ≢ 0 → ResetOn s key when (A.No n) s
      reset_refused d =
          record {
            dead = λ f. absurd (f i (mark_of s i) M);
            old = λ r p N g. record { told = ap no (D.old g); same = refl };
            far = λ r p N g. record { told = ap no (D.far g); same = refl };
            done = λ r p N g. absurd (d (D.near g));
          }

      module _ (z : n ≡ 0) {t : WheelWords} (Q : Leaves s.wheel i t) where
        H₁ : GoesBut i s (left (mark_of s i) i (view s)) (queue_words t s.values s.deadlines s.turns s.hand s.until)
        H₁ = goes_left (rests S rest) M.pending Q

        near_left : Near t.elapsed when
        near_left = let e : t.elapsed ≡ elapsed s = Q.becomes.elapsed in rw e (D.taken z).near

        pub reset_place : CanPlace t s.deadlines i when
        reset_place = record { whole = H₁.sound.standing.whole; item = Q.item; word = found_words.1; near = near_left }

        pub reset_done : {u : WheelWords} {ds : List ℕ} → PlacesTo t s.deadlines i when u ds
            → ResetOn s key when A.Done (queue_words u s.values ds s.turns s.hand s.until)
        reset_done P =
            let H₂ = goes_then (placed i when) H₁ (goes_placed H₁.sound Q.item when near_left P) in
            record {
              dead = λ f. absurd (f i (mark_of s i) M);
              old = λ r p N g. absurd (omega (arith, D.old g));
              far = λ r p N g. absurd (omega (arith, D.far g));
              done = λ r p N g. let e = names_one S M N in rw (← e.0, ← e.1) (answered rest (S.no_now rest) refl H₂);
            }

    module _ {t : WheelWords} (Q : Leaves s.wheel i t) where
      H₃ : GoesBut i s (left (mark_of s i) i (view s)) (queue_words t s.values s.deadlines s.turns s.hand s.until)
      H₃ = goes_left (rests S rest) M.pending Q

      pub remove_frees : CanFree t s.turns i
      remove_frees = record {
        whole = H₃.sound.standing.whole;
        item = Q.item;
        word = found_words.2;
        turn = (S.standing.turns i K.below).1;
      }

      pub remove_done : (x w : ℕ) → x ≡ value_at s.values i → w ≡ at s.deadlines i → {u : WheelWords} {ts : List ℕ}
          → LeavesTo t s.turns i u ts
          → RemoveOn s key (A.Gone x w) (queue_words u s.values s.deadlines ts s.hand s.until)
      remove_done x w ex ew P =
          let H₄ = goes_then (freed i) H₃ (goes_freed H₃.sound Q.item P) in
          record {
            dead = λ f. absurd (f i (mark_of s i) M);
            done = λ r p N. let e = names_one S M N in rw (← e.0, ← e.1) (answered rest (S.no_now rest) (rw (ex, ew)) H₄);
          }
