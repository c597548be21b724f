-- Keys over runs of any calls: none is given twice, and one whose record has left is refused for good, until the next format.
use mathlib.Core.Path.{◌≡◌, refl, sym, ap, ◌∙◌, subst}
use mathlib.Core.Logic.{◌≢◌, ⊎_elim, by_cases}
use mathlib.Core.List.{List, ◌∷◌}
use Prim.Native.Nat.{ℕ, ◌+◌}
use native.Mathlib.Decide.{ℕ_discrete}
use native.Mathlib.Omega.{arith}
use Rattle.links.specs.Lists.{nobody}
use Rattle.links.proofs.laws.Lists.{change_same}
use Rattle.places.specs.Places.{free, put}
use Rattle.queue.specs.declared.Answer.{Answer}
use Rattle.queue.specs.declared.Answer.TheVariants as A
use Rattle.queue.specs.Told.{Told, told}
use Rattle.queue.specs.Told as T
use Rattle.records.specs.View.{View}
use Rattle.records.specs.Records.{last_turn, left, number_in, turn_in, packed, Names}
use Rattle.records.specs.Words.{QueueWords, AtRest, view, Sound}
use Rattle.queue.specs.Calls.{Refused, Freely}
use Rattle.pausing.specs.Pausing.{SaysYet}
use Rattle.promises.specs.Polls.{PollAt}
use Rattle.records.proofs.laws.Words.{upd_same}
use Rattle.records.proofs.laws.Cases.{takes_so}
use Rattle.delay_queue.specs.declared.Call.{Call}
use Rattle.delay_queue.specs.declared.Call.TheVariants as C
use Rattle.delay_queue.specs.Claims.{CallClaim}
use Rattle.promises.proofs.laws.Met.{insert_met, remove_met}
use Rattle.promises.proofs.laws.Once.{told_one}
use Rattle.promises.specs.OneCall.{one}
use Rattle.promises.proofs.laws.OneCall.{call_sound, one_sound, insert_shown}
use Rattle.promises.specs.Runs.{Asked, Runs, rest, next, All, NoFormat}
use Rattle.promises.proofs.laws.Runs.{run_sound}
use Rattle.promises.proofs.laws.Clock.{Stands, other_stands}
use Rattle.promises.proofs.laws.Views.{ViewGoes, refuses, removes, polls, call_goes, goes_rest}
use Rattle.promises.proofs.laws.KeysOne.{Onward, onward_same, onward_then, freed_more, does_onward}
use Rattle.promises.proofs.laws.KeysGone.{Given, Spent, given_onward, spent_onward, names_given, spent_unnamed, given_kept, out_spent, spent_kept, remove_spent, clear_spent}
use Rattle.promises.specs.KeysStay.{HandsKey}
use Rattle.promises.proofs.laws.KeysReach.{insert_reaches, key_removes}
use Rattle.promises.specs.Keys.{Refuses, Leaves, cleared, polled, removed, Uses, asked, morning}
use Rattle.promises.specs.Polling.{Finished}
use Rattle.queue.proofs.laws.Calls.{names_one}

-- ---- one call

-- refused either way, and nothing changes
freely_same : {s t : QueueWords} {a : Answer} → Freely s a t (Refused 6 s a t) → t ≡ s
freely_same {s} F = by_cases (ℕ_discrete s.hand nobody) (λ z. (F.free z).same) (λ d. (F.held d).same)

module _ {s : QueueWords} (S : Sound s) {k : ℕ} where
  -- one that is spent is refused
  spent_refused : Spent (view s) k → Refuses s k
  spent_refused P =
      record {
        reset = λ when a t A. let F = A.good S in record { held = F.held; free = λ z. (F.free z).dead (spent_unnamed P) };
        remove = λ a t A. let F = A.good S in record { held = F.held; free = λ z. (F.free z).dead (spent_unnamed P) };
      }

  -- a key that leaves is spent
  remove_left : {x : Told} {w : View} → ViewGoes (view s) (C.Remove k) x w → {v d : ℕ} → x ≡ T.gone v d → Spent w k
  remove_left refuses z = let y : ◌≡◌ {A = ℕ} 0 1 = cc in absurd (omega arith)
  remove_left (removes N) z = remove_spent S N
  remove_left (polls c h Q) z = elim c [ ]

  left_spent : (c : Call) (a : Answer) (t : QueueWords) → Leaves s k (told a) c → CallClaim c s a t → Spent (view t) k
  left_spent c a t (polled {r = r} {p = p} at e N d) A =
      let H = out_spent S (call_goes c s a t S A) e in
      H.spent (rw (names_one S N H.names).0 at d)
  left_spent c a t (removed e) A = remove_left (call_goes (C.Remove k) s a t S A) e
  left_spent c a t (cleared N) A = clear_spent S N A

-- ---- a run

pub run_onward : {s t : QueueWords} {l : List Asked} → Sound s → Runs s l t → NoFormat l → (r : ℕ) → Onward (view s) (view t) r
run_onward {s} S rest f r = onward_same (view s) r
run_onward S (next {s} {t} {x = x} c q) f r =
    onward_then (does_onward S (call_goes x.call s x.answer t S c) f.0 r)
    (run_onward (call_sound x.call s x.answer t c S) q f.1 r)

module _ (P : Asked → Type 0) (I : View → Type 0) (r : ℕ) (stays : (v w : View) → Onward v w r → I v → I w)
    (holds : (s : QueueWords) → Sound s → I (view s) → (x : Asked) (w : View) → ViewGoes (view s) x.call (told x.answer) w → P x) where
  -- what a view has and keeps is true of every call
  run_all : {s t : QueueWords} {l : List Asked} → Sound s → I (view s) → Runs s l t → NoFormat l → All P l
  run_all S i rest f = tt
  run_all S i (next {s} {t} {x = x} c q) f =
      let D = call_goes x.call s x.answer t S c in (
        holds s S i x (view t) D,
        run_all (call_sound x.call s x.answer t c S) (stays (view s) (view t) (does_onward S D f.0 r) i) q
            f.1,
      )

-- a key that was given is not given again
pub given_no_more : {s t : QueueWords} {l : List Asked} (k : ℕ) → Sound s → Given (view s) k → Runs s l t → NoFormat l
    → All (λ x. told x.answer ≢ T.key k) l
given_no_more k S G r f =
    run_all (λ x. told x.answer ≢ T.key k) (λ v. Given v k) (number_in k) (λ v w. given_onward) (λ z Z G x w D. given_kept Z D G) S G r f

-- ---- what is promised

module _ {s t u : QueueWords} {l : List Asked} {k : ℕ} (S : Sound s) where
  module _ {value when period : ℕ} {a : Answer} (I : CallClaim (C.Insert value when period) s a t) (answer : told a ≡ T.key k) (r : Runs t l u)
      (f : NoFormat l) where
    after_insert : Sound t
    after_insert = call_sound (C.Insert value when period) s a t I S

    given : Given (view t) k
    given = names_given after_insert (insert_reaches S I answer).names

    -- "No key is given twice until the next format": no call of the run answers it again
    pub no_key_twice : All (λ x. told x.answer ≢ T.key k) l
    no_key_twice = given_no_more k after_insert given r f

    -- nor does an insert after it
    pub no_key_after : {x w q : ℕ} {b : Answer} {z : QueueWords} → CallClaim (C.Insert x w q) u b z → told b ≢ T.key k
    no_key_after {x} {w} {q} {b} {z} B =
        let U = run_sound after_insert r in
        given_kept U (call_goes (C.Insert x w q) u b z U B) (given_onward (run_onward after_insert r f (number_in k)) given)

  module _ (c : Call) (a : Answer) (A : CallClaim c s a t) (L : Leaves s k (told a) c) (r : Runs t l u) (f : NoFormat l) where
    after_leave : Sound t
    after_leave = call_sound c s a t A S

    spent : Spent (view u) k
    spent = spent_onward (run_onward after_leave r f (number_in k)) (left_spent S c a t L A)

    -- a key that has left, by a poll, a remove or a clear, is refused with 6 for good: whatever was called in between, until the next format
    pub left_is_dead : Refuses u k
    left_is_dead = spent_refused (run_sound after_leave r) spent

    -- a dead key never changes a word until the next format
    pub dead_key_changes_nothing : (d : Call) (b : Answer) (w : QueueWords) → Uses k d → CallClaim d u b w → w ≡ u
    dead_key_changes_nothing (C.Format n turn) b w h B = absurd h
    dead_key_changes_nothing (C.Insert value when period) b w h B = absurd h
    dead_key_changes_nothing (C.Reset key when) b w h B =
        freely_same (left_is_dead.reset when b w (rw h at B))
    dead_key_changes_nothing (C.Remove key) b w h B = freely_same (left_is_dead.remove b w (rw h at B))
    dead_key_changes_nothing (C.Poll now) b w h B = absurd h
    dead_key_changes_nothing (C.PollSome now limit) b w h B = absurd h
    dead_key_changes_nothing C.Wake b w h B = absurd h
    dead_key_changes_nothing C.Length b w h B = absurd h
    dead_key_changes_nothing C.Clear b w h B = absurd h

    -- and its timer is handed out no more: by no call of the run
    pub dead_never_out : All (λ x. HandsKey k (told x.answer) → ⊥) l
    dead_never_out =
        run_all (λ x. HandsKey k (told x.answer) → ⊥) (λ v. Spent v k) (number_in k) (λ v w. spent_onward)
        (λ z Z P x w D o. spent_kept Z D P o.4)
        after_leave (left_spent S c a t L A) r f

    -- nor by one after it
    pub dead_not_out : (d : Call) (b : Answer) (w : QueueWords) → CallClaim d u b w → HandsKey k (told b) → ⊥
    dead_not_out d b w B o = let U = run_sound after_leave r in spent_kept U (call_goes d u b w U B) spent o.4

module _ {s t u : QueueWords} {l : List Asked} {c : Call} {now k i p : ℕ} (S : Sound s) (at : PollAt c now) (a : Answer) (A : CallClaim c s a t)
    (o : HandsKey k (told a)) (N : Names (view s) k i p) (d : Finished (view s) i (told a)) (r : Runs t l u) (f : NoFormat l) where
  -- "none comes out twice", 02 [7]: "read per placing": a poll hands out k, which it does not set again, and no call of the run does so again
  pub out_once : All (λ x. HandsKey k (told x.answer) → ⊥) l
  out_once = dead_never_out S c a A (polled at o.4 N d) r f

  -- nor does a call after it
  pub out_once_after : (e : Call) (b : Answer) (w : QueueWords) → CallClaim e u b w → HandsKey k (told b) → ⊥
  out_once_after e b w B = dead_not_out S c a A (polled at o.4 N d) r f e b w B

-- ---- such runs there are

-- "has its turn raised by one and is taken next"
taken_next : {u : View} {k : ℕ} {x : Told} {w : View} → ViewGoes u (C.Remove k) x w → {v d : ℕ} → x ≡ T.gone v d → turn_in k ≢ last_turn
    → (l : List ℕ) × (w.lists free ≡ number_in k ∷ l) × (w.turn (number_in k) ≡ turn_in k + 1)
unfolding left put
taken_next refuses z d = let y : ◌≡◌ {A = ℕ} 0 1 = cc in absurd (omega arith)
taken_next {u} {k} (removes {r = i} {p = p} N) z d =
    let u = left p i u in
    rw (freed_more i u (λ e. d (sym N.turn ∙ e)), ← N.number, ← N.turn)
    (_, change_same u.lists free (put free i (u.lists free)), upd_same u.turn i (u.turn i + 1))
taken_next (polls c h Q) z d = elim c [ ]

-- and the clock, which stood at 0, stands there
at_zero : {e : ℕ} → Stands 0 e → e ≡ 0
at_zero z = ⊎_elim (λ e. e) (λ e. e) z

no_yet : {k : ℕ} → SaysYet (T.key k) → ⊥
no_yet y = let e = y.2 in let z : ◌≡◌ {A = ℕ} 0 1 = cc in omega arith

gone_no_yet : {v d : ℕ} → SaysYet (T.gone v d) → ⊥
gone_no_yet y = let e = y.2 in let z : ◌≡◌ {A = ℕ} 0 1 = cc in omega arith

pub dead_shown : (u : QueueWords) × Runs one morning u
dead_shown =
    let I = insert_shown in
    let rest₁ : AtRest I.0 = goes_rest (call_goes (C.Insert 7 70 0) one (A.Key 65536) I.0 one_sound I.1) no_yet refl in
    let m = remove_met I.0 65536 in
    let e : m.0 ≡ A.Gone 7 70 = told_one m.0 (A.Gone 7 70) (key_removes one_sound I.1 refl rest tt rest₁ m.2) in
    let R : CallClaim (C.Remove 65536) I.0 (A.Gone 7 70) m.1 = subst (λ a. CallClaim (C.Remove 65536) I.0 a m.1) e m.2 in
    let S = call_sound (C.Remove 65536) I.0 (A.Gone 7 70) m.1 R I.2 in
    let h = taken_next (call_goes (C.Remove 65536) I.0 (A.Gone 7 70) m.1 I.2 R) refl (omega arith) in
    let rest₂ : AtRest m.1 = goes_rest (call_goes (C.Remove 65536) I.0 (A.Gone 7 70) m.1 I.2 R) gone_no_yet rest₁ in
    let i = at_zero (other_stands (C.Insert 7 70 0) one (A.Key 65536) I.0 I.1 refl) in
    let z = at_zero (rw i at (other_stands (C.Remove 65536) I.0 (A.Gone 7 70) m.1 R refl)) in
    let j = insert_met m.1 8 0 0 in
    let g : told j.0 ≡ T.key 131072
    = (((j.2.good S).free rest₂).done 0 h.0 h.1 (takes_so (omega (arith, z)) (λ l. absurd (omega arith)))).told ∙ ap (λ c. T.key (packed c 0)) h.2 in
    let J : CallClaim (C.Insert 8 0 0) m.1 (A.Key 131072) j.1
    = subst (λ a. CallClaim (C.Insert 8 0 0) m.1 a j.1) (told_one j.0 (A.Key 131072) g) j.2 in
    let n = remove_met j.1 65536 in
    let rest₃ : AtRest j.1 = goes_rest (call_goes (C.Insert 8 0 0) m.1 (A.Key 131072) j.1 S J) no_yet rest₂ in
    let D = left_is_dead I.2 (C.Remove 65536) (A.Gone 7 70) R (removed refl) (next {x = asked (C.Insert 8 0 0) (A.Key 131072)} J rest)
    (refl, tt) in
    let f : n.0 ≡ A.No 6 = told_one n.0 (A.No 6) ((D.remove n.0 n.1 n.2).free rest₃).told in
    let Q : CallClaim (C.Remove 65536) j.1 (A.No 6) n.1 = subst (λ a. CallClaim (C.Remove 65536) j.1 a n.1) f n.2 in
    (n.1, next I.1 (next R (next J (next Q rest))))
