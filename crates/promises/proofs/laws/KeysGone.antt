-- A key that was given, and one whose record has left: what no call but format undoes (`given_onward`, `spent_onward`), and that a poll, a remove and a
-- clear spend the keys of the records that they free.
use mathlib.Core.Path.{◌≡◌, refl, sym, ap, ◌∙◌}
use mathlib.Core.Logic.{◌≢◌, inl, ⊎_elim, by_cases}
use mathlib.Core.List.{List, [], ◌∷◌}
use Prim.Native.Nat.{ℕ, ◌+◌, ◌≤◌}
use native.Mathlib.Decide.{ℕ_discrete}
use native.Mathlib.Omega.{arith}
use borrow.Author.Tests.{eq-eqb, ne_eqb}
use Rattle.links.specs.Lists.{Mem, without}
use Rattle.links.proofs.laws.Lists.{Nodup}
use Rattle.places.specs.Places.{free}
use Rattle.places.proofs.laws.Whole as place_laws
use Rattle.queue.specs.declared.Answer.{Answer}
use Rattle.queue.specs.Told.{Told, Hands, timer}
use Rattle.queue.specs.Told as T
use Rattle.records.specs.View.{View}
use Rattle.records.specs.Records.{last_turn, key_of, At, Names, left, freed, number_in, turn_in}
use Rattle.queue.specs.Steps.{PollsSome, handed_some, nothing_some, not_yet, GoesOn, once, again, ended}
use Rattle.records.specs.Words.{QueueWords, count, view, Sound}
use Rattle.pausing.specs.Pausing.{PollTaken}
use Rattle.records.proofs.laws.Words.{upd_same}
use Rattle.queue.proofs.laws.Polls.{clear_done}
use Rattle.delay_queue.specs.declared.Call.{Call}
use Rattle.delay_queue.specs.declared.Call.TheVariants as C
use Rattle.delay_queue.specs.Claims.{ClearClaim}
use Rattle.delay_queue.proofs.laws.Back.{taken_up}
use Rattle.promises.proofs.laws.Met.{clear_first}
use Rattle.promises.proofs.laws.Once.{clear_once}
use Rattle.promises.proofs.laws.Views.{ViewGoes, refuses, inserts, polls, call_goes, key_inserts, out_polls}
use Rattle.promises.proofs.laws.TakesOut.{one_list, key_of_names, moved_out, taken_out}
use Rattle.promises.proofs.laws.KeysOne.{Onward, freed_last, freed_more, does_onward}
use Rattle.promises.specs.Polling.{Finished}
use Rattle.promises.proofs.laws.Polling.{goes_on_says, none_out}

-- the record r was given under the turn c: that turn is past, or r is no longer free
pub record GivenAt (v : View) (c r : ℕ) : Type 0 where
  pub turn : c ≤ v.turn r
  pub taken : v.turn r ≡ c → Mem r (v.lists free) → ⊥

-- and has left: that turn is past, or r is not pending either
pub record SpentAt (v : View) (c r : ℕ) : Type 0 where
  pub given : GivenAt v c r
  pub gone : v.turn r ≡ c → (p : ℕ) → At v r p → ⊥

-- the same of a key: "turn in 48 bits, record number in 16"
abbrev pub Given : View → ℕ → Type 0
Given v k = GivenAt v (turn_in k) (number_in k)

abbrev pub Spent : View → ℕ → Type 0
Spent v k = SpentAt v (turn_in k) (number_in k)

module _ {v w : View} {c r : ℕ} (O : Onward v w r) where
  same_turn : c ≤ v.turn r → w.turn r ≡ c → (v.turn r ≡ c) × (w.turn r ≡ v.turn r)
  same_turn h e = (omega arith, omega (arith, O.turn))

  pub given_onward : GivenAt v c r → GivenAt w c r
  given_onward G =
      record {
        turn = omega arith;
        taken = λ e m. let z = same_turn G.turn e in G.taken z.0 (O.idle z.1 m);
      }

  pub spent_onward : SpentAt v c r → SpentAt w c r
  spent_onward P =
      record {
        given = given_onward P.given;
        gone = λ e p a.
            let z = same_turn P.given.turn e in
            ⊎_elim (P.given.taken z.0) (λ b. P.gone z.0 b.0 b.1) (O.waits z.1 p a);
      }

-- ---- on a sound store

without_out : (i : ℕ) (l : List ℕ) → Nodup l → Mem i (without i l) → ⊥
without_out i [] d m = m
without_out i (x ∷ l) d m =
    by_cases (ℕ_discrete x i)
    (λ e. d.0 (rw e (rw (eq-eqb x i e) at m)))
    (λ n. ⊎_elim (λ e. n (sym e)) (without_out i l d.1) (rw (ne_eqb x i n) at m))

module _ {s : QueueWords} (S : Sound s) where
  -- the key of a pending record was given
  pub names_given : {k r p : ℕ} → Names (view s) k r p → Given (view s) k
  names_given {k} {r} {p} N =
      rw (← N.number, ← N.turn)
      (record { turn = omega arith; taken = λ e m. omega (arith, one_list S r free p m N.pending.member) })

  -- a record that leaves its list is in none
  pub left_out : {i p : ℕ} → At (view s) i p → (q : ℕ) → Mem i ((left p i (view s)).lists q) → ⊥
  unfolding left
  left_out {i} {p} a q m =
      moved_out S i p a.member (without i ((view s).lists p))
      (without_out i ((view s).lists p) (place_laws.list_nodup S.standing.whole.places p)) q m

-- ---- the key of a record that is freed is spent

freed_spent : (i : ℕ) (v : View) → ((q : ℕ) → Mem i (v.lists q) → ⊥) → SpentAt (freed i v) (v.turn i) i
freed_spent i v out =
    by_cases (ℕ_discrete (v.turn i) last_turn)
    (λ z.
    rw (freed_last i v z)
    (record { given = record { turn = omega arith; taken = λ e m. out free m }; gone = λ e p a. out p a.member }))
    (λ z.
    let t = upd_same v.turn i (v.turn i + 1) in
    rw (freed_more i v z)
    (record { given = record { turn = omega arith; taken = λ e m. absurd (omega arith) }; gone = λ e p a. absurd (omega (arith, t)) }))

module _ {s : QueueWords} (S : Sound s) where
  spent_by : {k i p : ℕ} {w : View} → Names (view s) k i p → SpentAt w ((view s).turn i) i → Spent w k
  spent_by N P = rw (← N.number, ← N.turn) P

  pub remove_spent : {k i p : ℕ} → Names (view s) k i p → Spent (freed i (left p i (view s))) k
  unfolding left
  remove_spent {i = i} {p = p} N = spent_by N (freed_spent i (left p i (view s)) (left_out S N.pending))

  -- what a poll hands out was pending under its key, and its key is spent if it is not set again
  pub record HandsOut (k : ℕ) (x : Told) (w : View) : Type 0 where
    pub number : ℕ
    pub place : ℕ
    pub names : Names (view s) k number place
    pub spent : Finished (view s) number x → Spent w k

  hands_out : {k i p : ℕ} {x : Told} {w : View} → At (view s) i p → k ≡ key_of (view s) i → (Finished (view s) i x → SpentAt w ((view s).turn i) i)
      → HandsOut k x w
  hands_out {k} {i} {p} {x} {w} a e P =
      rw e (let N = key_of_names S a in record { number = i; place = p; names = N; spent = λ d. spent_by N (P d) })

  goes_spent : {i m n : ℕ} {u : View} {x : Told} {w : View} → u.turn i ≡ (view s).turn i → ((q : ℕ) → Mem i (u.lists q) → ⊥)
      → GoesOn (view s) i m n u x w → Finished (view s) i x → SpentAt w ((view s).turn i) i
  goes_spent {i} {u = u} t out (once z) d = rw (← t) (freed_spent i u out)
  goes_spent t out (again p f) d = absurd (⊎_elim (λ z. omega arith) (λ y. let e = y.5 in let z : ◌≡◌ {A = ℕ} 0 1 = cc in omega arith) d)
  goes_spent {i} {u = u} t out (ended p f) d = rw (← t) (freed_spent i u out)

  poll_spent : {now limit : ℕ} {x : Told} {w : View} → PollTaken (view s) now → PollsSome (view s) now limit x w → {k v d m n : ℕ} → Hands x k v d m n
      → HandsOut k x w
  poll_spent h (handed_some {r = i} {m} {n} {u} T G) {k} {v} {d} {m = m₁} {n = n₁} z =
      let O = taken_out S h T in
      let e : timer (key_of (view s) i) ((view s).value i) ((view s).deadline i) m n ≡ timer k v d m₁ n₁ = sym (goes_on_says G) ∙ z in
      let q : k ≡ key_of (view s) i = cc in
      hands_out (O.out i refl).1 q (goes_spent (ap (λ f. f i) O.turn) (O.gone i refl) G)
  poll_spent h (nothing_some T) z = absurd (none_out z)
  poll_spent h (not_yet T) z = absurd (none_out z)

  -- ---- clear

  -- nobody is pending after it
  pub clear_empty : {a : Answer} {t : QueueWords} → ClearClaim s a t → (r p : ℕ) → At (view t) r p → ⊥
  clear_empty {a} {t} A r p b =
      let m = clear_first S.standing (count s) (omega arith) in
      let C = m.1 in
      let e = (clear_once A (taken_up S (clear_done C refl s.hand s.until))).1 in
      let x = rw e at b in
      let y : At (view m.0) r p = record { timed = x.timed; member = x.member } in
      C.gone r (omega (arith, place_laws.member_below C.standing.whole.places p r y.member)) p y

  pub clear_spent : {k i p : ℕ} → Names (view s) k i p → {a : Answer} {t : QueueWords} → ClearClaim s a t → Spent (view t) k
  clear_spent {k} N {a} {t} A =
      record {
        given = given_onward (does_onward S (call_goes C.Clear s a t S A) refl (number_in k)) (names_given S N);
        gone = λ e p b. clear_empty A (number_in k) p b;
      }

-- ---- what a call does not answer

pub spent_unnamed : {v : View} {k : ℕ} → Spent v k → (r p : ℕ) → Names v k r p → ⊥
spent_unnamed {v} {k} P r p N =
    P.gone (ap v.turn (sym N.number) ∙ N.turn) p (rw N.number at N.pending)

module _ {s : QueueWords} (S : Sound s) {k : ℕ} where
  insert_new : Given (view s) k → {value when period : ℕ} {x : Told} {w : View} → ViewGoes (view s) (C.Insert value when period) x w → x ≢ T.key k
  insert_new G refuses z = let y : ◌≡◌ {A = ℕ} 0 1 = cc in omega arith
  insert_new G (inserts {r = i} e) z =
      let h = place_laws.member_below S.standing.whole.places free i (rw e (inl refl)) in
      let q : k ≡ key_of (view s) i = cc in
      let number : i ≡ number_in k = omega arith in
      let turn : (view s).turn i ≡ turn_in k = omega arith in
      (rw (← number) at G.taken) turn (rw e (inl refl))
  insert_new G (polls c h Q) z = elim c [ ]

  module _ {c : Call} {x : Told} {w : View} (D : ViewGoes (view s) c x w) where
    -- a key that was given is not answered
    pub given_kept : Given (view s) k → x ≢ T.key k
    given_kept G z = insert_new G (rw (key_inserts D z).3 at D) z

    module _ {v d m n : ℕ} where
      -- what is handed out was pending under its key
      pub out_spent : Hands x k v d m n → HandsOut S k x w
      out_spent z = let p = out_polls D z in poll_spent S p.1 p.2.1 z

      -- one that is spent is not handed out
      pub spent_kept : Spent (view s) k → (Hands x k v d m n → ⊥)
      spent_kept P z = let H = out_spent z in spent_unnamed P H.number H.place H.names
