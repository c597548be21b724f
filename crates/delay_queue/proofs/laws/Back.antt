-- What the proofs of the calls cite: the judge's answer decides which half of a claim is owed, and what is handed back is what was made.
use mathlib.Core.Path.{◌≡◌, refl, sym, ap, ◌∙◌, subst}
use mathlib.Core.Logic.{◌≢◌}
use mathlib.Core.Bool.{Bool, true, false, not}
use mathlib.Core.List.{List}
use Prim.Native.Nat.{ℕ, ◌-◌, ◌^◌, ◌≤◌}
use native.Mathlib.Omega.{arith}
use lib.ListN.{length}
use borrow.Author.Tests.{not-true, not-false}
use Rattle.links.specs.Lists.{nobody}
use Rattle.places.specs.Places.{expired}
use Rattle.places.specs.declared.Tops.{Tops}
use Rattle.places.specs.Words.{head_at}
use Rattle.places.proofs.laws.Heads.{head_expired}
use Rattle.places.proofs.laws.Whole as place_laws
use Rattle.wheel.proofs.laws.Between.{rule_between}
use Rattle.wheel.specs.Expiration.{CanLook}
use Rattle.wheel.proofs.laws.Moves.{wheel_asks, wheel_sees}
use Rattle.wheel.specs.declared.Wheel.{Wheel}
use Rattle.queue.specs.declared.Answer.{Answer}
use Rattle.queue.specs.declared.Answer.TheVariants as A
use Rattle.queue.specs.Told.{told, len}
use Rattle.queue.specs.Told as T
use Rattle.records.specs.View.{View}
use Rattle.queue.specs.Steps.{NextWake}
use Rattle.queue.specs.Calls.{InsertOn, ResetOn, RemoveOn, PollsOn, ClearOn, Freely, WakeOn, LengthOn}
use Rattle.queue.proofs.laws.Resumed.{polls_whole}
use Rattle.queue.specs.Inner.{Shows, pending_in}
use Rattle.queue.proofs.laws.Polls.{pending_is}
use Rattle.records.specs.Words.{QueueWords, words, holding, AtRest, MidPoll, Sound, count, elapsed, mark_of, view}
use Rattle.records.proofs.laws.Lent.{place_words_of, stacked_same, lent_as}
use Rattle.contracts.specs.Tells.{Tells}
use Rattle.delay_queue.specs.declared.Call.{Call}
use Rattle.delay_queue.specs.Claims.{Judging, InsertClaim, ResetClaim, RemoveClaim, PollClaim, PollSomeClaim, ClearClaim, CallClaim}
use Rattle.delay_queue.specs.Free.{FreeNo}

-- what goes out is a with w and hh
abbrev pub GivesBack : Answer → Wheel → List (List ℕ) → Answer → Wheel → List (List ℕ) → Type 0
GivesBack a' w' hh' a w hh = (a' ≡ a) × (w' ≡ w) × (hh' ≡ hh)

module _ (vs ds ns ps ts ms : List ℕ) where
  pub back : {a a' : Answer} {w w' : Wheel} {hh hh' : List (List ℕ)} → GivesBack a' w' hh' a w hh → (On : Answer → QueueWords → Type 0)
      → On a (words w hh vs ds ns ps ts ms) → On a' (words w' hh' vs ds ns ps ts ms)
  back G On x = subst (λ (z : Answer × Wheel × List (List ℕ)). On z.0 (words z.1 z.2 vs ds ns ps ts ms))
      (sym (λ i. (G.0 i, G.1 i, G.2 i))) x

  -- an answer alone
  pub back_same : {a a' : Answer} {w w' : Wheel} {hh hh' : List (List ℕ)} → GivesBack a' w' hh' a w hh → (On : Answer → Type 0) → On a
      → On a' × (words w' hh' vs ds ns ps ts ms ≡ words w hh vs ds ns ps ts ms)
  back_same G On x = (subst On (sym G.0) x, λ i. words (G.1 i) (G.2 i) vs ds ns ps ts ms)

  -- not sound
  pub sent_back : {a : Answer} {w w' : Wheel} {hh hh' : List (List ℕ)} {b : Bool} {On : Type 0}
      → Tells (Sound (words w hh vs ds ns ps ts ms)) b → not b ≡ true
      → GivesBack a w' hh' (A.No 2) w hh → Judging (words w hh vs ds ns ps ts ms) a (words w' hh' vs ds ns ps ts ms) On
  sent_back {b = b} T e G =
      record {
        bad = λ f. record { told = ap told G.0; same = λ i. words (G.1 i) (G.2 i) vs ds ns ps ts ms };
        good = λ S. absurd (T.no (not-true b e) S);
      }

-- the same, where nothing is handed back
pub no_answer : {s : QueueWords} {b : Bool} {On : Type 0} → Tells (Sound s) b → not b ≡ true → Judging s (A.No 2) s On
no_answer {s} {b} T e = record { bad = λ f. record { told = refl; same = refl }; good = λ S. absurd (T.no (not-true b e) S) }

-- sound
pub is_sound : {s : QueueWords} {b : Bool} → Tells (Sound s) b → not b ≡ false → Sound s
is_sound {s} {b} T e = T.yes (not-false b e)

pub taken_up : {s s' : QueueWords} {a : Answer} {On : Type 0} → Sound s → On → Judging s a s' On
taken_up S x = record { bad = λ f. absurd (f S); good = λ _. x }

-- ---- 02 [10]: a call that is refused while a poll is in hand

pub free_bad : {s : QueueWords} {b : Bool} → Tells (Sound s) b → not b ≡ true → FreeNo s 2
free_bad {s} {b} T e =
    let f : Sound s → ⊥ = T.no (not-true b e) in
    record { bad = λ _. refl; held = λ S. absurd (f S); near = λ S. absurd (f S); taken = λ z. absurd (omega arith) }

pub free_held : {s : QueueWords} {b : Bool} → Tells (Sound s) b → not b ≡ false → MidPoll s → FreeNo s 12
free_held {s} {b} T e d =
    let S = is_sound T e in
    record { bad = λ f. absurd (f S); held = λ _ _. refl; near = λ _ z. absurd (d z); taken = λ z. absurd (omega arith) }

pub free_none : {s : QueueWords} {b : Bool} → Tells (Sound s) b → not b ≡ false → AtRest s → FreeNo s 0
free_none {s} {b} T e z =
    let S = is_sound T e in
    record { bad = λ f. absurd (f S); held = λ _ d. absurd (d z); near = λ _ _. refl; taken = λ _. (S, z) }

away : {s s' : QueueWords} {a : Answer} {On : Type 0} {r : ℕ} → FreeNo s r → r ≢ 0 → told a ≡ told (A.No r) → s' ≡ s → Judging s a s' (Freely s a s' On)
away F d e q =
    record {
      bad = λ f. record { told = e ∙ ap T.no (F.bad f); same = q };
      good = λ S. record {
        held = λ m. record { told = e ∙ ap T.no (F.held S m); same = q };
        free = λ z. absurd (d (F.near S z));
      };
    }

pub sent_away : (vs ds ns ps ts ms : List ℕ) {a : Answer} {w w' : Wheel} {hh hh' : List (List ℕ)} {r : ℕ} {On : Type 0}
    → FreeNo (words w hh vs ds ns ps ts ms) r → r ≢ 0 → GivesBack a w' hh' (A.No r) w hh
    → Judging (words w hh vs ds ns ps ts ms) a (words w' hh' vs ds ns ps ts ms)
    (Freely (words w hh vs ds ns ps ts ms) a (words w' hh' vs ds ns ps ts ms) On)
sent_away vs ds ns ps ts ms F d G = away F d (ap told G.0) (λ i. words (G.1 i) (G.2 i) vs ds ns ps ts ms)

pub no_free : {s : QueueWords} {r : ℕ} {On : Type 0} → FreeNo s r → r ≢ 0 → Judging s (A.No r) s (Freely s (A.No r) s On)
no_free F d = away F d refl refl

-- no poll is in hand: the words are those of the parts
settled : {s : QueueWords} → Sound s × AtRest s → holding nobody 0 s ≡ s
settled {s} F = λ i. holding (sym F.1 i) (sym (F.0.no_now F.1) i) s

pub parted : {s : QueueWords} → Sound s × AtRest s → Sound (holding nobody 0 s)
parted F = subst Sound (sym (settled F)) F.0

-- the call was asked of the stacks st, lent
taken_free : {s s' : QueueWords} {a : Answer} {st : Tops} (On : QueueWords → Type 0) → Sound s × AtRest s → st ≡ s.wheel.places.tops
    → On (holding nobody 0 (place_words_of st s)) → Judging s a s' (Freely s a s' (On s))
taken_free {s} On F q x =
    record {
      bad = λ f. absurd (f F.0);
      good = λ S. record { held = λ d. absurd (d F.1); free = λ _. subst On (settled F) (subst (λ s. On (holding nobody 0 s)) (stacked_same {s = s} q) x) };
    }

module _ {s s' : QueueWords} {a : Answer} {st : Tops} where
  module _ (F : Sound s × AtRest s) (q : st ≡ s.wheel.places.tops) where
    pub taken_insert : {value when period : ℕ} → InsertOn (holding nobody 0 (place_words_of st s)) value when period a s' → InsertClaim s value when period a s'
    taken_insert {value} {when} {period} x = taken_free (λ s. InsertOn s value when period a s') F q x

    pub taken_reset : {key when : ℕ} → ResetOn (holding nobody 0 (place_words_of st s)) key when a s' → ResetClaim s key when a s'
    taken_reset {key} {when} x = taken_free (λ s. ResetOn s key when a s') F q x

    pub taken_remove : {key : ℕ} → RemoveOn (holding nobody 0 (place_words_of st s)) key a s' → RemoveClaim s key a s'
    taken_remove {key} x = taken_free (λ s. RemoveOn s key a s') F q x

  -- polls and clears judge a poll in hand themselves
  module _ (S : Sound s) (q : st ≡ s.wheel.places.tops) where
    pub taken_poll : {now limit : ℕ} → PollsOn (place_words_of st s) now limit a s' → PollSomeClaim s now limit a s'
    taken_poll {now} {limit} x = taken_up S (subst (λ s. PollsOn s now limit a s') (stacked_same q) x)

    pub taken_clear : ClearOn (place_words_of st s) a s' → ClearClaim s a s'
    taken_clear x = taken_up S (subst (λ s. ClearOn s a s') (stacked_same q) x)

-- asked of the stacks st, lent
pub tells_lent : {s : QueueWords} {st : Tops} {b : Bool} → st ≡ s.wheel.places.tops → Tells (Sound s) b → Tells (Sound (place_words_of st s)) b
tells_lent {b = b} q T = lent_as (λ s. Tells (Sound s) b) q T

pub taken_alone : {s : QueueWords} {a : Answer} {On : Type 0} → Sound s × AtRest s → On → Judging s a s (Freely s a s On)
taken_alone F x = record { bad = λ f. absurd (f F.0); good = λ S. record { held = λ d. absurd (d F.1); free = λ _. x } }

-- a whole poll is one with a limit past all heights
pub whole_claim : {s s' : QueueWords} {now : ℕ} {a : Answer} → PollSomeClaim s now (2 ^ 64 - 1) a s' → PollClaim s now a s'
whole_claim P = record { bad = P.bad; good = λ S. polls_whole S (omega arith) (P.good S) }

-- ---- next wake and length

pub can_look : {s : QueueWords} → Sound s × AtRest s
    → CanLook (elapsed s) s.wheel.occupied s.deadlines s.wheel.places.tops.parking
can_look {s} F =
    let S = F.0 in
    wheel_asks S.standing.whole (rule_between (S.rule.free F.1)) s.deadlines S.standing.fits.room.deadlines

-- the words of a sound store are those of its view
abbrev pub ShowsOf : QueueWords → View → Type 0
ShowsOf s v = let st = s.wheel.places.tops in Shows (elapsed s) s.wheel.occupied s.deadlines st.expired st.parking v

shows : {s : QueueWords} → Sound s × AtRest s → ShowsOf s (view s)
shows {s} F =
    let S = F.0 in
    let W = S.standing.whole.places in
    let head : head_at s.wheel.places expired ≡ s.wheel.places.tops.expired = head_expired s.wheel.places.tops s.wheel.places.heads in
    record {
      elapsed = refl;
      wheel = wheel_sees S.standing.whole (rule_between (S.rule.free F.1));
      empty = λ z. place_laws.list_empty W expired (head ∙ z);
      first = λ d. rw head at (place_laws.list_cons W expired (λ z. d (sym head ∙ z)));
    }

-- x and p are the heads as they were read
pub wake_done : {s : QueueWords} {a : Answer} {x p : ℕ} → x ≡ s.wheel.places.tops.expired → p ≡ s.wheel.places.tops.parking
    → Sound s × AtRest s → ((v : View) → Shows (elapsed s) s.wheel.occupied s.deadlines x p v → NextWake v (told a)) → WakeOn s a
wake_done {s} ex ep F f = record { done = f (view s) (rw (ex, ep) (shows F)) }

pub marks_long : {s : QueueWords} → Sound s → count s ≤ length s.wheel.places.links.marks
marks_long S = (place_laws.room S.standing.whole.places).marks

pub length_done : {s : QueueWords} {n : ℕ} → Sound s → n ≡ pending_in (mark_of s) (count s) → LengthOn s (A.Length n)
length_done S e = record { done = ap len (e ∙ pending_is S) }

-- ---- any call

pub by_call : {c k : Call} (s s' : QueueWords) (a : Answer) → c ≡ k → CallClaim k s a s' → CallClaim c s a s'
by_call s s' a e x = subst (λ (z : Call). CallClaim z s a s') (sym e) x
