-- A step that is written is read back, whatever stands behind it, and a part of its bytes is a cut.
use mathlib.Core.Path.{◌≡◌, refl, sym, ap, ◌∙◌}
use mathlib.Core.Logic.{by_cases}
use mathlib.Core.Bool.{true}
use mathlib.Core.List.{List, ◌++◌, append_assoc}
use Prim.Native.Nat.{ℕ, zero, suc, ◌+◌, ◌-◌, ◌*◌, ◌/◌, ◌%◌, ◌≤◌, ◌<◌}
use native.Mathlib.Decide.{dec_lt}
use native.Mathlib.Omega.{arith}
use lib.ListN.{length, take, drop, length-append}
use lib.Seq.{length-take-le, drop_at, take-append-add}
use Rattle.std.proofs.Common.{Result, Ok, Err}
use Rattle.delay_queue.specs.declared.Call.TheVariants as C
use Rattle.entries.specs.declared.Ending.{Ending}
use Rattle.entries.specs.declared.Step.{Step}
use Rattle.entries.specs.declared.Step.TheVariants as S
use Rattle.entries.specs.declared.Ending.TheVariants as E
use Rattle.entries.specs.declared.Entry.{Entry}
use Rattle.writing.specs.Writing.{digits_of}
use Rattle.entries.specs.Entries.{entry, step_bytes, Fits64, Fit}
use Rattle.entries.specs.Reading.{word_at, entry_in, field_zeros, zeros, checked, pair_of, repeating, step_of, next}
use Rattle.entries.proofs.laws.Writing.{entry_length}
use Rattle.entries.proofs.laws.Reading.{no_damage, next_cut, next_read, pair_read, pair_cut, pair_made, step_nine}
use Rattle.entries.proofs.laws.Bytes.{bytes_back}

-- ---- an entry that is written is read back

abbrev parts : ℕ → ℕ → ℕ → Entry
parts k a b = record { kind = k; spare = 0; a = a; b = b }

module _ (k a b : ℕ) (kind : (0 < k) × (k ≤ 11)) (fa : Fits64 a) (fb : Fits64 b) (l : List ℕ) where
  head_back : word_at 2 0 (entry k a b ++ l) ≡ k * 4096
  unfolding word_at entry digits_of
  head_back = bytes_back 2 (k * 4096) (omega arith)

  first_back : word_at 8 2 (entry k a b ++ l) ≡ a
  unfolding word_at entry digits_of
  first_back = bytes_back 8 a (omega arith)

  second_back : word_at 8 10 (entry k a b ++ l) ≡ b
  unfolding word_at entry digits_of
  second_back = bytes_back 8 b (omega arith)

  entry_back : entry_in (entry k a b ++ l) ≡ parts k a b
  unfolding entry_in
  entry_back =
      let h = head_back in
      let p : word_at 2 0 (entry k a b ++ l) / 4096 ≡ k = omega arith in
      let q : word_at 2 0 (entry k a b ++ l) % 4096 ≡ 0 = omega arith in
      let r = first_back in
      let s = second_back in
      λ i. record { kind = p i; spare = q i; a = r i; b = s i }

  long : 18 ≤ length (entry k a b ++ l)
  long = omega (arith, length-append (entry k a b) l, entry_length k a b)

  behind : drop 18 (entry k a b ++ l) ≡ l
  behind = drop_at (entry k a b) l 18 (entry_length k a b)

  -- an entry with its zeros is the step of its kind
  entry_next : {x : Result Step Ending} → field_zeros k a b ≡ true → x ≡ step_of (parts k a b) l → next (entry k a b ++ l) ≡ x
  unfolding zeros
  entry_next {x} z e =
      let c : x ≡ checked (parts k a b) x = no_damage (parts k a b) x (λ g. omega arith) kind.1 z in
      let d : x ≡ step_of (parts k a b) (drop (0 + 18) (entry k a b ++ l)) = e ∙ ap (λ (m : List ℕ). step_of (parts k a b) m) (sym behind) in
      sym (next_read (entry k a b ++ l) 0 long (sym entry_back) d c)

-- a kind 9 and its kind 10
pair_next : (value when p : ℕ) → Fits64 value → Fits64 when → Fits64 p → 0 < p → (l : List ℕ)
    → next (entry 9 value when ++ (entry 10 p 0 ++ l)) ≡ Ok (S.Asks (C.Insert value when p))
unfolding zeros
pair_next value when p fv fw fp o l =
    let e = parts 9 value when in
    let q = parts 10 p 0 in
    let m = entry 10 p 0 ++ l in
    let y : Ok (S.Asks (C.Insert value when p)) ≡ pair_of e q = pair_made e q refl (λ g. omega arith) in
    let c = no_damage q (pair_of e q) (λ g. omega arith) (omega arith) refl in
    let r : Ok (S.Asks (C.Insert value when p)) ≡ repeating e m =
    pair_read e m 0 (omega (arith, length-append (entry 10 p 0) l, entry_length 10 p 0)) (sym (entry_back 10 p 0 (omega arith) fp (omega arith) l)) (y ∙ c)
    in
    entry_next 9 value when (omega arith) fv fw m refl (r ∙ step_nine e m refl)

-- a kind 9 and less than its kind 10
half_next : (value when : ℕ) → Fits64 value → Fits64 when → (l : List ℕ) → length l < 18 → next (entry 9 value when ++ l) ≡ Err E.Cut
half_next value when fv fw l h =
    let e = parts 9 value when in
    let r : Err E.Cut ≡ repeating e l = pair_cut e l 0 h in
    entry_next 9 value when (omega arith) fv fw l refl (r ∙ step_nine e l refl)

-- ---- a step is read back

pub step_back : (x : Step) (l : List ℕ) → Fit x → 0 < length (step_bytes x) → next (step_bytes x ++ l) ≡ Ok x
unfolding step_of
step_back (S.Asks (C.Format n turn)) l f h = entry_next 1 n turn (omega arith) f.0 f.1 l refl refl
step_back (S.Asks (C.Insert value when zero)) l f h = entry_next 2 value when (omega arith) f.0 f.1 l refl refl
step_back (S.Asks (C.Insert value when (suc p))) l f h =
    ap next (append_assoc (entry 9 value when) (entry 10 (suc p) 0) l) ∙ pair_next value when (suc p) f.0 f.1 f.2 (omega arith) l
step_back (S.Asks (C.Reset key when)) l f h = entry_next 3 key when (omega arith) f.0 f.1 l refl refl
step_back (S.Asks (C.Remove key)) l f h = entry_next 4 key 0 (omega arith) f (omega arith) l refl refl
step_back (S.Asks (C.Poll now)) l f h = entry_next 5 now 0 (omega arith) f (omega arith) l refl refl
step_back (S.Asks (C.PollSome now limit)) l f h = entry_next 11 now limit (omega arith) f.0 f.1 l refl refl
step_back (S.Asks C.Wake) l f h = absurd (omega arith)
step_back (S.Asks C.Length) l f h = absurd (omega arith)
step_back (S.Asks C.Clear) l f h = entry_next 6 0 0 (omega arith) (omega arith) (omega arith) l refl refl
step_back S.Open l f h = entry_next 7 0 0 (omega arith) (omega arith) (omega arith) l refl refl
step_back S.Close l f h = entry_next 8 0 0 (omega arith) (omega arith) (omega arith) l refl refl

-- ---- a part of it is a cut

single_cut : (l : List ℕ) (k : ℕ) → length l ≡ 18 → k < length l → next (take k l) ≡ Err E.Cut
single_cut l k e h = sym (next_cut (take k l) 0 (omega (arith, length-take-le k l (omega arith))))

pair_part : (value when p k : ℕ) → Fits64 value → Fits64 when → k < 36 → next (take k (entry 9 value when ++ entry 10 p 0)) ≡ Err E.Cut
pair_part value when p k fv fw h =
    by_cases (dec_lt k 18)
    (λ (g : k < 18). sym (next_cut (take k m) 0 (omega (arith, length-take-le k m (omega (arith, size))))))
    (λ g. ap next (later (omega arith)) ∙ half_next value when fv fw (take (k - 18) (entry 10 p 0)) (short (omega arith)))
  where
    m : List ℕ
    m = entry 9 value when ++ entry 10 p 0

    size : length m ≡ 36
    size = omega (arith, length-append (entry 9 value when) (entry 10 p 0), entry_length 9 value when, entry_length 10 p 0)

    later : 18 ≤ k → take k m ≡ entry 9 value when ++ take (k - 18) (entry 10 p 0)
    later g =
        let e : k ≡ length (entry 9 value when) + (k - 18) = omega (arith, entry_length 9 value when) in
        ap (λ (i : ℕ). take i m) e ∙ take-append-add (entry 9 value when) (entry 10 p 0) (k - 18)

    short : 18 ≤ k → length (take (k - 18) (entry 10 p 0)) < 18
    short g = omega (arith, length-take-le (k - 18) (entry 10 p 0) (omega (arith, entry_length 10 p 0)))

-- "Cut the file at any byte": what is left of a step's bytes is a cut
pub step_cut : (x : Step) (k : ℕ) → Fit x → k < length (step_bytes x) → next (take k (step_bytes x)) ≡ Err E.Cut
step_cut (S.Asks (C.Format n turn)) k f h = single_cut _ k (entry_length 1 n turn) h
step_cut (S.Asks (C.Insert value when zero)) k f h = single_cut _ k (entry_length 2 value when) h
step_cut (S.Asks (C.Insert value when (suc p))) k f h =
    pair_part value when (suc p) k f.0 f.1
    (omega (arith, length-append (entry 9 value when) (entry 10 (suc p) 0), entry_length 9 value when, entry_length 10 (suc p) 0))
step_cut (S.Asks (C.Reset key when)) k f h = single_cut _ k (entry_length 3 key when) h
step_cut (S.Asks (C.Remove key)) k f h = single_cut _ k (entry_length 4 key 0) h
step_cut (S.Asks (C.Poll now)) k f h = single_cut _ k (entry_length 5 now 0) h
step_cut (S.Asks (C.PollSome now limit)) k f h = single_cut _ k (entry_length 11 now limit) h
step_cut (S.Asks C.Wake) k f h = absurd (omega arith)
step_cut (S.Asks C.Length) k f h = absurd (omega arith)
step_cut (S.Asks C.Clear) k f h = single_cut _ k (entry_length 6 0 0) h
step_cut S.Open k f h = single_cut _ k (entry_length 7 0 0) h
step_cut S.Close k f h = single_cut _ k (entry_length 8 0 0) h
