-- What a call claims of a store it claims of the store that is cut to its N records (`call_cut`): but for format, which looks at the lengths of the slices,
-- each case of a claim is the same case, by the laws of a view with nothing past N.
use mathlib.Core.Path.{◌≡◌, refl, sym, ap, ◌∙◌, subst, subst₂}
use mathlib.Core.Logic.{inl}
use mathlib.Core.Bool.{false, true≢false}
use mathlib.Core.List.{List, ◌∷◌}
use Prim.Native.Nat.{ℕ, ◌≤◌, ◌<◌}
use native.Mathlib.Omega.{arith}
use Rattle.places.specs.Places.{free}
use Rattle.places.proofs.laws.Whole as place_laws
use Rattle.records.specs.View.{View}
use Rattle.records.specs.Records.{key_of, Names, left, placed, freed}
use Rattle.records.specs.Words.{QueueWords, count, elapsed, view, AtRest, Sound}
use Rattle.records.proofs.laws.Inner.{placed_size, left_size, freed_size}
use Rattle.queue.specs.declared.Answer.{Answer}
use Rattle.queue.specs.Told.{Told, told}
use Rattle.queue.specs.Told as T
use Rattle.queue.specs.Steps.{PollsSome, PollsRest, NextWake, pending, Clears}
use Rattle.queue.specs.Calls.{Refused, Answered, InsertOn, ResetOn, RemoveOn, PollOn, Freely, Resuming, RestOn, SomeOn, PollSomeOn, WakeOn, LengthOn, ClearOn}
use Rattle.queue.proofs.laws.Polls.{some_size, rest_size, clears_size}
use Rattle.delay_queue.specs.declared.Call.{Call}
use Rattle.delay_queue.specs.declared.Call.TheVariants as C
use Rattle.delay_queue.specs.Claims.{Judging, CallClaim}
use Rattle.promises.specs.Runs.{is_format}
use Rattle.promises.specs.Alike.{up_to, cut}
use Rattle.pausing.specs.Pausing.{PollTaken}
use Rattle.pausing.proofs.laws.Pausing.{rest_whole}
use Rattle.promises.proofs.laws.Does.{whole_rest}
use Rattle.promises.proofs.laws.Cut.{cut_sound, sound_cut, cut_view, cut_kept, below_lt, masked}
use Rattle.promises.proofs.laws.Masked.{inserted, inserted_masked, reset_masked, removed_masked, key_masked, names_masked, masked_names, polls_masked, rest_masked, wake_masked, pending_masked, clears_masked}

refused_cut : {k : ℕ} {s t : QueueWords} {a : Answer} → Refused k s a t → Refused k (cut s) a (cut t)
refused_cut R = record { told = R.told; same = ap (λ u. cut u) R.same }

-- a poll is taken with no poll in hand
taken_free : (s : QueueWords) {now : ℕ} → AtRest s → elapsed s ≤ now → PollTaken (view s) now
taken_free s z h = record { same = λ d. absurd (d z); later = λ _. h }

module _ {s : QueueWords} (S : Sound s) where
  free_seen : {l : List ℕ} → (view (cut s)).lists free ≡ l → (view s).lists free ≡ l
  free_seen e = sym (ap (λ v. v.lists free) (cut_view S)) ∙ e

  free_below : (r : ℕ) (l : List ℕ) → (view s).lists free ≡ r ∷ l → r < count s
  free_below r l e = place_laws.member_below S.standing.whole.places free r (rw e (inl refl))

  names_seen : {k r p : ℕ} → Names (view (cut s)) k r p → Names (view s) k r p
  names_seen {k} {r} {p} N = masked_names (view s) (subst (λ v. Names v k r p) (cut_view S) N)

  seen_names : {k r p : ℕ} → Names (view s) k r p → Names (view (cut s)) k r p
  seen_names {k} {r} {p} N = subst (λ v. Names v k r p) (sym (cut_view S)) (names_masked (view s) N)

module _ {s t : QueueWords} {a : Answer} where
  answered_cut : Sound s → {x y : Told} {v w : View} → x ≡ y → masked v ≡ w → v.n ≡ count s → Answered s a x v t → Answered (cut s) a y w (cut t)
  answered_cut S e f n A =
      record {
        told = A.told ∙ e;
        sound = cut_sound A.sound;
        view = cut_view A.sound ∙ ap (λ v. masked v) A.view ∙ f;
        kept = cut_kept S A.sound (ap (λ v. v.n) A.view ∙ n);
      }

  judging_cut : {On On' : Type 0} → (Sound s → On → On') → Judging s a t On → Judging (cut s) a (cut t) On'
  judging_cut f J = record { bad = λ n. refused_cut (J.bad (λ S. n (cut_sound S))); good = λ S. f (sound_cut S) (J.good (sound_cut S)) }

  -- the poll in hand is the same
  freely_cut : {On On' : Type 0} → (On → On') → Freely s a t On → Freely (cut s) a (cut t) On'
  unfolding up_to
  freely_cut f F = record { held = λ d. refused_cut (F.held d); free = λ z. f (F.free z) }

  resuming_cut : {now : ℕ} {On On' Rest Rest' : Type 0} → (AtRest s → On → On') → (PollTaken (view s) now → Rest → Rest') → Resuming s now a t On Rest
      → Resuming (cut s) now a (cut t) On' Rest'
  unfolding up_to
  resuming_cut f g R =
      record {
        other = λ d n. refused_cut (R.other d n);
        same = λ d e. g (record { same = λ _. e; later = λ z. absurd (d z) }) (R.same d e);
        free = λ z. f z (R.free z);
      }

  module _ (S : Sound s) where
    insert_cut : {value when period : ℕ} → InsertOn s value when period a t → InsertOn (cut s) value when period a (cut t)
    unfolding up_to
    insert_cut {value} {when} {period} I =
        record {
          full = λ e. refused_cut (I.full (free_seen S e));
          old = λ r l e f. refused_cut (I.old r l (free_seen S e) f);
          far = λ r l e f. refused_cut (I.far r l (free_seen S e) f);
          done = λ r l e f.
              let h = free_below S r l (free_seen S e) in
              answered_cut S
              (ap T.key (sym (key_masked (view s) h)) ∙ ap (λ v. T.key (key_of v r)) (sym (cut_view S)))
              (inserted_masked r l value when period (view s) h ∙ ap (λ v. inserted r l value when period v) (sym (cut_view S)))
              (placed_size r when _) (I.done r l (free_seen S e) f);
        }

    reset_cut : {k when : ℕ} → ResetOn s k when a t → ResetOn (cut s) k when a (cut t)
    unfolding up_to
    reset_cut {k} {when} R =
        record {
          dead = λ f. refused_cut (R.dead (λ r p N. f r p (seen_names S N)));
          old = λ r p N f. refused_cut (R.old r p (names_seen S N) f);
          far = λ r p N f. refused_cut (R.far r p (names_seen S N) f);
          done = λ r p N f.
              answered_cut S refl
              (reset_masked r p when (view s) N.below ∙ ap (λ v. placed r when (left p r v)) (sym (cut_view S)))
              (placed_size r when _ ∙ left_size p r (view s)) (R.done r p (names_seen S N) f);
        }

    remove_cut : {k : ℕ} → RemoveOn s k a t → RemoveOn (cut s) k a (cut t)
    unfolding up_to
    remove_cut {k} R =
        record {
          dead = λ f. refused_cut (R.dead (λ r p N. f r p (seen_names S N)));
          done = λ r p N.
              let v = view s in
              answered_cut S
              (sym (rw (below_lt v.n v.value N.below, below_lt v.n v.deadline N.below))
              ∙ ap (λ u. T.gone (u.value r) (u.deadline r)) (sym (cut_view S)))
              (removed_masked r p (view s) N.below ∙ ap (λ u. freed r (left p r u)) (sym (cut_view S)))
              (freed_size r _ ∙ left_size p r (view s)) (R.done r p (names_seen S N));
        }

    clear_cut : ClearOn s a t → ClearOn (cut s) a (cut t)
    unfolding up_to
    clear_cut K =
        record {
          cleared = masked K.cleared;
          clears = subst (λ v. Clears v (count s) (masked K.cleared)) (sym (cut_view S)) (clears_masked (omega arith) K.clears);
          done = answered_cut S refl refl (clears_size K.clears) K.done;
        }

-- a poll
module _ {s t : QueueWords} (a : Answer) (S : Sound s) where
  some_cut : {now limit : ℕ} → PollTaken (view s) now → SomeOn s now limit a t → SomeOn (cut s) now limit a (cut t)
  some_cut {now} {limit} K d = (
    cut_sound d.0,
    subst₂ (λ u w. PollsSome u now limit (told a) w) (sym (cut_view S)) (sym (cut_view d.0)) (polls_masked S K d.1),
    cut_kept S d.0 (some_size d.1),
  )

  rest_cut : {now : ℕ} → PollTaken (view s) now → RestOn s now a t → RestOn (cut s) now a (cut t)
  rest_cut {now} K d = (
    cut_sound d.0,
    subst₂ (λ u w. PollsRest u now (told a) w) (sym (cut_view S)) (sym (cut_view d.0)) (rest_masked S K d.1),
    cut_kept S d.0 (rest_size d.1),
  )

  -- with no poll in hand, a whole poll goes on from nothing
  poll_cut : {now : ℕ} → AtRest s → PollOn s now a t → PollOn (cut s) now a (cut t)
  unfolding up_to
  poll_cut {now} z P =
      record {
        back = λ h. refused_cut (P.back h);
        done = λ h.
            let d = P.done h in
            let r = rest_cut (taken_free s z h) (d.0, whole_rest S z d.1, d.2) in
            (r.0, rest_whole (cut s) z (S.no_now z) r.1, r.2);
      }

  begin_cut : {now limit : ℕ} → AtRest s → PollSomeOn s now limit a t → PollSomeOn (cut s) now limit a (cut t)
  unfolding up_to
  begin_cut z P = record { back = λ h. refused_cut (P.back h); done = λ h. some_cut (taken_free s z h) (P.done h) }

wake_cut : {s : QueueWords} {a : Answer} → Sound s → WakeOn s a → WakeOn (cut s) a
wake_cut {s} {a} S W = record { done = subst (λ v. NextWake v (told a)) (sym (cut_view S)) (wake_masked W.done) }

length_cut : {s : QueueWords} {a : Answer} → Sound s → LengthOn s a → LengthOn (cut s) a
length_cut {s} S L =
    record { done = L.done ∙ ap T.len (sym (pending_masked (view s)) ∙ ap (λ v. pending v) (sym (cut_view S))) }

-- a claim of a store is one of the store that is cut
pub call_cut : (c : Call) (s : QueueWords) (a : Answer) (t : QueueWords) → is_format c ≡ false → CallClaim c s a t → CallClaim c (cut s) a (cut t)
call_cut (C.Format n turn) s a t f A = absurd (true≢false f)
call_cut (C.Insert value when period) s a t f A = judging_cut (λ S. freely_cut (insert_cut S)) A
call_cut (C.Reset key when) s a t f A = judging_cut (λ S. freely_cut (reset_cut S)) A
call_cut (C.Remove key) s a t f A = judging_cut (λ S. freely_cut (remove_cut S)) A
call_cut (C.Poll now) s a t f A = judging_cut (λ S. resuming_cut (poll_cut a S) (rest_cut a S)) A
call_cut (C.PollSome now limit) s a t f A = judging_cut (λ S. resuming_cut (begin_cut a S) (some_cut a S)) A
call_cut C.Wake s a t f A = (judging_cut (λ S. freely_cut (wake_cut S)) A.0, ap (λ u. cut u) A.1)
call_cut C.Length s a t f A = (judging_cut length_cut A.0, ap (λ u. cut u) A.1)
call_cut C.Clear s a t f A = judging_cut clear_cut A
