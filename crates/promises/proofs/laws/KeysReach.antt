-- A pending timer's key reaches that timer and no other, and goes on reaching it until the timer leaves, or all are cleared or formatted.
use mathlib.Core.Path.{◌≡◌, refl, sym, ap, ◌∙◌, subst}
use mathlib.Core.Logic.{inl}
use mathlib.Core.List.{List}
use mathlib.Core.Option.{none, some}
use Prim.Native.Nat.{ℕ, ◌<◌, max}
use native.Mathlib.Omega.{arith}
use Rattle.links.proofs.laws.Lists.{change_same}
use Rattle.places.specs.Places.{free}
use Rattle.places.proofs.laws.Whole as place_laws
use Rattle.wheel.proofs.laws.Sums.{put_mem}
use Rattle.queue.specs.declared.Answer.{Answer}
use Rattle.queue.specs.Told.{Told, told, Hands, handing}
use Rattle.queue.specs.Told as T
use Rattle.records.specs.View.{View, with_value, upd, with_period}
use Rattle.records.specs.Records.{key_of, At, Names, taken, left, target, placed, number_in, turn_in}
use Rattle.queue.proofs.laws.Calls.{names_one}
use Rattle.queue.specs.Steps.{PollsSome}
use Rattle.records.specs.Words.{QueueWords, AtRest, elapsed, view, Sound}
use Rattle.pausing.specs.Pausing.{PollTaken}
use Rattle.wheel.specs.Limited.{Outcome, ended as stopped, yet}
use Rattle.records.proofs.laws.Words.{upd_same}
use Rattle.delay_queue.specs.declared.Call.{Call}
use Rattle.delay_queue.specs.declared.Call.TheVariants as C
use Rattle.delay_queue.specs.Claims.{CallClaim}
use Rattle.promises.proofs.laws.OneCall.{call_sound}
use Rattle.promises.specs.Runs.{Asked, Runs, rest, next, All}
use Rattle.promises.proofs.laws.Runs.{run_sound}
use Rattle.promises.proofs.laws.Views.{ViewGoes, refuses, inserts, resets, polls, call_goes, out_polls}
use Rattle.promises.proofs.laws.Polling.{target_timed, says_of, Fairly, PolledBy, poll_works, none_out}
use Rattle.promises.proofs.laws.KeysStay.{Stays, does_stays}
use Rattle.promises.specs.KeysReach.{Reaches, Spares}
use Rattle.promises.proofs.laws.TakesOut.{got_by, key_of_names}

-- ---- one call

-- the record of k, placed
placed_reaches : (u : View) (i when : ℕ) {k : ℕ} → i ≡ number_in k → i < u.n → u.turn i ≡ turn_in k
    → Reaches (placed i when u) k (u.value i) (u.period i) (max when u.elapsed)
unfolding placed
placed_reaches u i when number below turn =
    let w = max when u.elapsed in
    let p = target u.elapsed w in
    record {
      number = i;
      place = p;
      names = record {
        number = number;
        below = below;
        pending = record {
          timed = target_timed u.elapsed w;
          member = rw (change_same u.lists p) (put_mem p i i (u.lists p) (inl refl));
        };
        turn = turn;
      };
      value = refl;
      period = refl;
      deadline = upd_same u.deadline i w;
    }

module _ {s : QueueWords} (S : Sound s) where
  insert_does : {value when period : ℕ} {x : Told} {w : View} → ViewGoes (view s) (C.Insert value when period) x w → {k : ℕ} → x ≡ T.key k
      → Reaches w k value period (max when (elapsed s))
  insert_does refuses z = let y : ◌≡◌ {A = ℕ} 0 1 = cc in absurd (omega arith)
  insert_does {value} {when} {period} (inserts {r = i} {l = l} e) {k} z =
      let h = place_laws.member_below S.standing.whole.places free i (rw e (inl refl)) in
      let q : k ≡ key_of (view s) i = cc in
      let u = with_period (upd (view s).period i period) (with_value (upd (view s).value i value) (taken l (view s))) in
      let number : i ≡ number_in k = omega arith in
      let turn : (view s).turn i ≡ turn_in k = omega arith in
      subst (λ x. Reaches (placed i when u) k x period (max when (elapsed s))) (upd_same (view s).value i value)
      (subst (λ x. Reaches (placed i when u) k (upd (view s).value i value i) x (max when (elapsed s))) (upd_same (view s).period i period)
      (placed_reaches u i when number h turn))
  insert_does (polls c h Q) z = elim c [ ]

  reset_does : {k when : ℕ} {x : Told} {w : View} → ViewGoes (view s) (C.Reset k when) x w → x ≡ T.ok → {y q d : ℕ} → Reaches (view s) k y q d
      → Reaches w k y q (max when (elapsed s))
  unfolding left
  reset_does refuses z R = let y : ◌≡◌ {A = ℕ} 0 1 = cc in absurd (omega arith)
  reset_does {k} {when} (resets {r = i} {p = p} N) z {y} {q} R =
      let j : i ≡ R.number = N.number ∙ sym R.names.number in
      let e : (view s).value i ≡ y = ap (view s).value j ∙ R.value in
      let f : (view s).period i ≡ q = ap (view s).period j ∙ R.period in
      rw (← e, ← f) (placed_reaches (left p i (view s)) i when N.number N.below N.turn)
  reset_does (polls c h Q) z R = elim c [ ]

  -- what is handed out under the key is the record that the key names
  pub poll_tells : {now limit : ℕ} {x : Told} {w : View} → PollTaken (view s) now → PollsSome (view s) now limit x w → {k y q d v e m n : ℕ}
      → Reaches (view s) k y q d
      → Hands x k v e m n → (v ≡ y) × (e ≡ d)
  poll_tells {now} {x = x} {w = w} h Q {k} {y} {d = d} {v} {e} R z = by P.outcome P.is P.by.fair
    where
      P : PolledBy (view s) now x w
      P = poll_works S h Q

      by : (o : Outcome) → handing x ≡ says_of (view s) (got_by o) P.moves P.drains → Fairly (view s) now o → (v ≡ y) × (e ≡ d)
      by (stopped none) is f = absurd (none_out (sym is ∙ z))
      by (yet o) is f = absurd (none_out (sym is ∙ z))
      by (stopped (some i)) is f =
          let q : k ≡ key_of (view s) i = cc in
          let a : v ≡ (view s).value i = cc in
          let b : e ≡ (view s).deadline i = cc in
          let j : i ≡ R.number = (rw (← q) at (key_of_names S f.0.1).number) ∙ sym R.names.number in
          (a ∙ ap (view s).value j ∙ R.value, b ∙ ap (view s).deadline j ∙ R.deadline)

  -- whatever call it is
  out_does : {c : Call} {x : Told} {w : View} → ViewGoes (view s) c x w → {k y q d v e m n : ℕ} → Reaches (view s) k y q d → Hands x k v e m n
      → (v ≡ y) × (e ≡ d)
  out_does D R z = let P = out_polls D z in poll_tells P.1 P.2.1 R z

pub stays_reaches : {v w : View} {k x q d : ℕ} (R : Reaches v k x q d) → Stays v w R.number → Reaches w k x q d
stays_reaches {v} {w} {k} R Y =
    let N = R.names in
    let b = Y.waits R.place N.pending in
    record {
      number = R.number;
      place = b.0;
      names = record { number = N.number; below = omega arith; pending = b.1; turn = Y.turn ∙ N.turn };
      value = Y.value ∙ R.value;
      period = Y.period ∙ R.period;
      deadline = Y.deadline ∙ R.deadline;
    }

-- ---- what is promised

module _ {s : QueueWords} (S : Sound s) where
  -- a key names one record only, in one place
  pub key_one : {k r p q o : ℕ} → Names (view s) k r p → Names (view s) k q o → (r ≡ q) × (p ≡ o)
  key_one N M = names_one S N M

  -- two pending records have different keys
  pub keys_apart : {r p q o : ℕ} → At (view s) r p → At (view s) q o → key_of (view s) r ≡ key_of (view s) q → r ≡ q
  keys_apart {r} {p} {q} {o} a b e =
      omega (
        arith,
        place_laws.member_below S.standing.whole.places p r a.member,
        place_laws.member_below S.standing.whole.places o q b.member,
      )

  -- the key that an insert answers reaches what was inserted: "Insert and reset first raise the deadline to elapsed if it is smaller"
  pub insert_reaches : {t : QueueWords} {value when period k : ℕ} {a : Answer} → CallClaim (C.Insert value when period) s a t → told a ≡ T.key k
      → Reaches (view t) k value period (max when (elapsed s))
  insert_reaches {t} {value} {when} {period} {a = a} A e = insert_does S (call_goes (C.Insert value when period) s a t S A) e

  -- "A reset .. keeps its key": it reaches the same value, with the new deadline
  pub reset_reaches : {t : QueueWords} {when k x q d : ℕ} {a : Answer} → Reaches (view s) k x q d → CallClaim (C.Reset k when) s a t
      → told a ≡ T.ok
      → Reaches (view t) k x q (max when (elapsed s))
  reset_reaches {t} {when} {k} {a = a} R A e = reset_does S (call_goes (C.Reset k when) s a t S A) e R

  -- a remove of the key answers the value and the deadline that it reaches: "`gone value deadline`"
  pub remove_tells : {t : QueueWords} {k x q d : ℕ} {a : Answer} → AtRest s → Reaches (view s) k x q d → CallClaim (C.Remove k) s a t
      → told a ≡ T.gone x d
  remove_tells z R A = (((A.good S).free z).done R.number R.place R.names).told ∙ rw (R.value, R.deadline)

  -- and a poll that hands out the key says them: "`out key value deadline moves drains`"
  pub out_tells : (c : Call) (a : Answer) (t : QueueWords) → CallClaim c s a t → {k x q d v e m n : ℕ} → Reaches (view s) k x q d → Hands (told a) k v e m n
      → (v ≡ x) × (e ≡ d)
  out_tells c a t A R z = out_does S (call_goes c s a t S A) R z

-- it goes on reaching it over any run that leaves the timer alone
pub reaches_on : {s t : QueueWords} {l : List Asked} {k x q d : ℕ} → Sound s → Reaches (view s) k x q d → Runs s l t → All (Spares k) l
    → Reaches (view t) k x q d
reaches_on S R rest a = R
reaches_on S R (next {s} {t} {x = x} c r) a =
    reaches_on (call_sound x.call s x.answer t c S)
    (stays_reaches R (does_stays S R.names (call_goes x.call s x.answer t S c) a.0.0 a.0.1)) r a.1

module _ {s t u : QueueWords} {value when period k : ℕ} {a : Answer} {l : List Asked} (S : Sound s) (I : CallClaim (C.Insert value when period) s a t)
    (answer : told a ≡ T.key k) (r : Runs t l u) (spared : All (Spares k) l) where
  -- a pending timer's key reaches that timer: after any run that leaves it alone, the key names it, with the value and the deadline of the insert
  pub key_reaches : Reaches (view u) k value period (max when (elapsed s))
  key_reaches = reaches_on (call_sound (C.Insert value when period) s a t I S) (insert_reaches S I answer) r spared

  -- so a remove of the key answers what was inserted, while no poll is in hand
  pub key_removes : AtRest u → {b : Answer} {w : QueueWords} → CallClaim (C.Remove k) u b w → told b ≡ T.gone value (max when (elapsed s))
  key_removes z B = remove_tells (run_sound (call_sound (C.Insert value when period) s a t I S) r) z key_reaches B
