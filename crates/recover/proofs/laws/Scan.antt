-- A scan leaves one outcome, and there is one; chunk by chunk it finds what it finds in the joined bytes; and it finds what replay does, with no store.
use mathlib.Core.Path.{◌≡◌, refl, sym, ap, ◌∙◌, subst}
use mathlib.Core.Logic.Dec
use mathlib.Core.Logic.{by_cases}
use mathlib.Core.Bool.{Bool, true, false, cond, true≢false, false≢true}
use mathlib.Core.List.{List, [], ◌++◌, append_assoc}
use Prim.Native.Nat.{ℕ, zero, suc, ◌+◌, ◌-◌, ◌^◌, ◌≤◌, ◌<◌}
use native.Mathlib.Decide.{dec_lt, dec_le, map_dec}
use native.Mathlib.Omega.{arith}
use lib.ListN.{length, take, drop, length-drop}
use lib.Seq.{drop-drop, drop-append_seam, take-add, length-take-le}
use Rattle.std.proofs.Common.{Option, Some, None, Result, Ok, Err}
use Rattle.queue.specs.declared.Answer.{Answer}
use Rattle.queue.specs.Told.{told}
use Rattle.records.specs.Slices.{Slices, Fits}
use Rattle.records.specs.Words.{QueueWords, words}
use Rattle.delay_queue.specs.declared.Call.{Call}
use Rattle.delay_queue.specs.declared.Call.TheVariants as C
use Rattle.promises.specs.Runs.{is_format}
use Rattle.promises.proofs.laws.Decided.{fits_dec}
use Rattle.entries.specs.declared.Step.{Step}
use Rattle.entries.specs.declared.Step.TheVariants as S
use Rattle.entries.specs.declared.Ending.{Ending}
use Rattle.entries.specs.declared.Ending.TheVariants as E
use Rattle.entries.specs.Reading as read
use Rattle.entries.proofs.laws.Reading.{next_cut}
use Rattle.entries.proofs.laws.Inverse.{next_size}
use Rattle.entries.proofs.laws.More.{next_more}
use Rattle.journal.specs.Journal.{Acts, unwritten}
use Rattle.journal.proofs.laws.Once.{acts_met}
use Rattle.recover.specs.declared.Seen.{Seen}
use Rattle.recover.specs.Replay.{found, size, Replays, inside, outside, no_wheel}
use Rattle.recover.specs.Replay as R
use Rattle.recover.specs.Scan.{Short, enough, short, NumberOf, formats, made, no_store, opens, opens_twice, closes, closes_none, Admits, no_step, refused, step}
use Rattle.recover.specs.Scan.{live_after, open_after, calls_of, seen, stopped_by, behind, is_cut, Scans, stops, gets, goes, CanBe, ScanClaim}
use Rattle.recover.proofs.laws.Known.{Known, number_none, number_some, known_after, open_after_lem}
use Rattle.recover.proofs.laws.Once.{same_step, same_end, not_both}

-- ---- one outcome

short_once : {F : Type 0} {m n : Option ℕ} → Short F m → Short F n → m ≡ n
short_once (enough f) (enough g) = refl
short_once (enough f) (short g) = absurd (g f)
short_once (short f) (enough g) = absurd (f g)
short_once (short f) (short g) = refl

number_once : {z : Slices} {b p : Bool} {x : Step} {m n : Option ℕ} → NumberOf z b p x m → NumberOf z b p x n → m ≡ n
number_once (formats S) (formats T) = short_once S T
number_once (formats S) (made e h) = absurd (true≢false e)
number_once (formats S) (no_store e h) = absurd (true≢false e)
number_once (made e h) (formats T) = absurd (true≢false e)
number_once (made e h) (made f g) = refl
number_once (made e h) (no_store f g) = absurd (true≢false (sym h ∙ g))
number_once (no_store e h) (formats T) = absurd (true≢false e)
number_once (no_store e h) (made f g) = absurd (false≢true (sym h ∙ g))
number_once (no_store e h) (no_store f g) = refl
number_once (opens h) (opens g) = refl
number_once (opens h) (opens_twice g) = absurd (false≢true (sym h ∙ g))
number_once (opens_twice h) (opens g) = absurd (true≢false (sym h ∙ g))
number_once (opens_twice h) (opens_twice g) = refl
number_once (closes h) (closes g) = refl
number_once (closes h) (closes_none g) = absurd (true≢false (sym h ∙ g))
number_once (closes_none h) (closes g) = absurd (false≢true (sym h ∙ g))
number_once (closes_none h) (closes_none g) = refl

-- of the same bytes the same step is read, with the same number
same_number : {z : Slices} {b p : Bool} {n : Result Step Ending} {x y : Step} {i j : Option ℕ} → n ≡ Ok x → n ≡ Ok y → NumberOf z b p x i → NumberOf z b p y j → i ≡ j
same_number {z} {b} {p} {j = j} h k N M = number_once N (subst (λ (w : Step). NumberOf z b p w j) (same_step k h) M)

some_none : {n : ℕ} → Some n ≡ None → ⊥
some_none e = absurd cc

scans_once : {z : Slices} {l : List ℕ} {s t u : Seen} → Scans z l s t → Scans z l s u → t ≡ u
scans_once {s = s} (stops h) (stops k) = ap (λ (e : Ending). stopped_by e s) (same_end h k)
scans_once (stops h) (gets k M) = absurd (not_both k h)
scans_once (stops h) (goes k M B) = absurd (not_both k h)
scans_once (gets h N) (stops k) = absurd (not_both h k)
scans_once {s = s} (gets {n = m} h N) (gets {n = n} k M) =
    let e : Some m ≡ Some n = same_number h k N M in
    let r : m ≡ n = cc in
    ap (λ (i : ℕ). stopped_by (E.Gets i) s) r
scans_once (gets h N) (goes k M B) = absurd (some_none (same_number h k N M))
scans_once (goes h N A) (stops k) = absurd (not_both h k)
scans_once (goes h N A) (gets k M) = absurd (some_none (same_number k h M N))
scans_once {z} {l} {s} {u = u} (goes h N A) (goes k M B) =
    scans_once A (subst (λ (x : Step). Scans z (drop (size x) l) (behind x s) u) (same_step k h) B)

-- whether it can be is decided
can_dec : (l : List ℕ) (s : Seen) → Dec (CanBe l s)
can_dec l s =
    map_dec (λ x. record { cut = x.0.0; within = x.0.1; few = x.1 }) (λ C. ((C.cut, C.within), C.few))
    (Dec.and (Dec.and (is_cut_dec s.ending) (dec_lt (s.at + length l) (2 ^ 64))) (dec_le s.left s.at))
  where
    is_cut_dec : (e : Ending) → Dec (is_cut e ≡ true)
    is_cut_dec E.Cut = yes refl
    is_cut_dec E.Kind = no (λ h. false≢true h)
    is_cut_dec E.Zero = no (λ h. false≢true h)
    is_cut_dec E.Pair = no (λ h. false≢true h)
    is_cut_dec (E.Gets n) = no (λ h. false≢true h)

-- "no second answer could satisfy it"
pub scan_once : {z : Slices} {l : List ℕ} {s t u : Seen} → ScanClaim z l s t → ScanClaim z l s u → t ≡ u
scan_once {l = l} {s} A B =
    by_cases (can_dec l s) (λ c. scans_once (A.reads c) (B.reads c)) (λ f. A.stays f ∙ sym (B.stays f))

-- ---- and there is one

-- slices are those of a store
fits_short : (z : Slices) (n : ℕ) → (r : Option ℕ) × Short (Fits z n) r
fits_short z n =
    by_cases (fits_dec (words no_wheel [] z.values z.deadlines z.links.nexts z.links.prevs z.turns z.links.marks) n)
    (λ f. (None, enough f)) (λ f. (Some 1, short f))

asks_number : (z : Slices) (b p : Bool) (c : Call) → is_format c ≡ false → (r : Option ℕ) × NumberOf z b p (S.Asks c) r
asks_number z true p c e = (None, made e refl)
asks_number z false p c e = (Some 2, no_store e refl)

number_met : (z : Slices) (b p : Bool) (x : Step) → (r : Option ℕ) × NumberOf z b p x r
number_met z b p (S.Asks (C.Format n turn)) = let m = fits_short z n in (m.0, formats m.1)
number_met z b p (S.Asks (C.Insert value when period)) = asks_number z b p (C.Insert value when period) refl
number_met z b p (S.Asks (C.Reset key when)) = asks_number z b p (C.Reset key when) refl
number_met z b p (S.Asks (C.Remove key)) = asks_number z b p (C.Remove key) refl
number_met z b p (S.Asks (C.Poll now)) = asks_number z b p (C.Poll now) refl
number_met z b p (S.Asks (C.PollSome now limit)) = asks_number z b p (C.PollSome now limit) refl
number_met z b p (S.Asks C.Wake) = asks_number z b p C.Wake refl
number_met z b p (S.Asks C.Length) = asks_number z b p C.Length refl
number_met z b p (S.Asks C.Clear) = asks_number z b p C.Clear refl
number_met z b true S.Open = (Some 13, opens_twice refl)
number_met z b false S.Open = (None, opens refl)
number_met z b true S.Close = (None, closes refl)
number_met z b false S.Close = (Some 13, closes_none refl)

scans_met : (z : Slices) (k : ℕ) (l : List ℕ) → length l ≤ k → (s : Seen) → (t : Seen) × Scans z l s t
scans_met z zero l h s = (stopped_by E.Cut s, stops (sym (next_cut l 0 (omega arith))))
scans_met z (suc k) l h s = by (λ (m : List ℕ) g r. scans_met z k m g r) (read.next l) refl
  where
    by : ((m : List ℕ) → length m ≤ k → (r : Seen) → (t : Seen) × Scans z m r t) → (n : Result Step Ending) → read.next l ≡ n → (t : Seen) × Scans z l s t
    by rec (Err e) q = (stopped_by e s, stops q)
    by rec (Ok x) q = let m = number_met z s.live s.patch x in numbered m.0 m.1
      where
        numbered : (r : Option ℕ) → NumberOf z s.live s.patch x r → (t : Seen) × Scans z l s t
        numbered None N =
            let n = next_size l q in
            let r = rec (drop (size x) l) (omega (arith, n.0, length-drop (size x) l)) (behind x s) in
            (r.0, goes q N r.1)
        numbered (Some n) N = (stopped_by (E.Gets n) s, gets q N)

pub scan_met : (z : Slices) (l : List ℕ) (s : Seen) → (t : Seen) × ScanClaim z l s t
scan_met z l s =
    by_cases (can_dec l s)
    (λ c. let m = scans_met z (length l) l (omega arith) s in (m.0, record { reads = λ d. m.1; stays = λ f. absurd (f c) }))
    (λ f. (s, record { reads = λ c. absurd (f c); stays = λ g. refl }))

-- ---- chunk by chunk

-- why it stopped before is not looked at
pub scans_after : {z : Slices} {l : List ℕ} {s t : Seen} {e : Ending} → Scans z l (stopped_by e s) t → Scans z l s t
unfolding behind
scans_after (stops h) = stops h
scans_after (gets h N) = gets h N
scans_after (goes h N A) = goes h N A

pub behind_at : (x : Step) (s : Seen) → (behind x s).at ≡ s.at + size x
unfolding behind
behind_at x s = refl

behind_kept : (x : Step) (s : Seen) → s.kept ≤ s.at → (behind x s).kept ≤ (behind x s).at
unfolding behind
behind_kept x s k = by (open_after s.patch x)
  where
    by : (b : Bool) → cond b s.kept (s.at + size x) ≤ s.at + size x
    by true = omega (arith, k)
    by false = omega arith

behind_left : (x : Step) (s : Seen) → 0 < size x → s.left ≤ s.at → (behind x s).left ≤ (behind x s).at
unfolding behind
behind_left x s h k = by (open_after s.patch x) (one_call x)
  where
    one_call : (y : Step) → calls_of y ≤ 1
    one_call (S.Asks c) = omega arith
    one_call S.Open = omega arith
    one_call S.Close = omega arith

    by : (b : Bool) → calls_of x ≤ 1 → cond b (s.left + calls_of x) 0 ≤ s.at + size x
    by true o = omega (arith, k, h)
    by false o = omega arith

-- how far it came
pub record Came (l : List ℕ) (s t : Seen) : Type 0 where
  pub used : ℕ
  pub at : t.at ≡ s.at + used
  pub within : used ≤ length l
  pub kept : s.kept ≤ s.at → t.kept ≤ t.at
  pub left : s.left ≤ s.at → t.left ≤ t.at

pub scans_came : {z : Slices} {l : List ℕ} {s t : Seen} → Scans z l s t → Came l s t
scans_came (stops h) = record { used = 0; at = omega arith; within = omega arith; kept = λ k. k; left = λ k. k }
scans_came (gets h N) = record { used = 0; at = omega arith; within = omega arith; kept = λ k. k; left = λ k. k }
scans_came {l = l} {s} (goes {x = x} h N A) =
    let C = scans_came A in
    let n = next_size l h in
    record {
      used = size x + C.used;
      at = omega (arith, C.at, behind_at x s);
      within = omega (arith, C.within, n.1, length-drop (size x) l);
      kept = λ k. C.kept (behind_kept x s k);
      left = λ k. C.left (behind_left x s n.0 k);
    }

-- what was used of a chunk, and the next chunk behind it, are read as one: where it was no damage that stopped it
pub scans_on : {z : Slices} {c : List ℕ} {s t : Seen} → Scans z c s t → is_cut t.ending ≡ true → (u : ℕ) → t.at ≡ s.at + u
    → (d : List ℕ) {t' : Seen} → Scans z d t t' → Scans z (take u c ++ d) s t'
scans_on {z} {c} {s} (stops {e = e} h) k u q d {t'} B =
    let n : u ≡ 0 = omega arith in
    subst (λ (i : ℕ). Scans z (take i c ++ d) s t') (sym n) (scans_after B)
scans_on (gets h N) k u q d B = absurd (false≢true k)
scans_on {z} {c} {s} {t} (goes {x = x} h N A) k u q d {t'} B =
    let C = scans_came A in
    let v = C.used in
    let i : u ≡ size x + v = omega (arith, q, C.at, behind_at x s) in
    let r = take v (drop (size x) c) ++ d in
    let e : take u c ++ d ≡ take (size x) c ++ r =
    ap (λ (j : ℕ). take j c ++ d) i ∙ ap (λ (m : List ℕ). m ++ d) (take-add (size x) v c) ∙ append_assoc (take (size x) c) (take v (drop (size x) c)) d
    in
    let n = next_size c h in
    let f : drop (size x) (take (size x) c ++ r) ≡ r =
    ap (λ (j : ℕ). drop j (take (size x) c ++ r)) (sym (length-take-le (size x) c n.1)) ∙ drop-append_seam (take (size x) c) r
    in
    subst (λ (m : List ℕ). Scans z m s t') (sym e)
    (goes (next_more c r h) N (subst (λ (m : List ℕ). Scans z m (behind x s) t') (sym f) (scans_on A k v C.at d B)))

-- ---- what replay finds

-- a scan from s on, where `now` is the store that the steps before made: the store is not needed to know how far they are kept
pub scans_replays : {z : Slices} {l : List ℕ} {s t : Seen} → Scans z l s t → {now : QueueWords} → Known z s.live now → (store : QueueWords)
    → (u : QueueWords) × Replays l s.at s.patch now s.kept store (found t.kept t.at t.ending u)
unfolding behind
scans_replays (stops h) K store = (store, R.stops h)
scans_replays {s = s} (gets {x = x} h N) {now} K store =
    let m = acts_met x s.patch now in
    let g = number_some K N m.3 in
    (store, R.gets h m.3 g.0 g.1)
scans_replays {z} {l} {s} {t} (goes {x = x} h N A) {now} K store =
    let m = acts_met x s.patch now in
    by m.0 m.1 m.2 m.3 (number_none K N m.3) (λ v. scans_replays A (known_after K N m.3) v) (open_after s.patch x) refl
  where
    F : QueueWords → R.Found
    F u = found t.kept t.at t.ending u

    -- from behind the step on, where b says whether a patch is open
    Rest : Bool → QueueWords → QueueWords → Type 0
    Rest b w v = (u : QueueWords) × Replays (drop (size x) l) (s.at + size x) b w (cond b s.kept (s.at + size x)) v (F u)

    by : (a : Answer) (q : Bool) (w : QueueWords) → Acts s.patch now x a q w → unwritten (told a) ≡ false
        → ((v : QueueWords) → Rest (open_after s.patch x) w v)
        → (b : Bool) → open_after s.patch x ≡ b → (u : QueueWords) × Replays l s.at s.patch now s.kept store (F u)
    by a q w B o rest true e =
        let r : Rest true w store = subst (λ (b : Bool). Rest b w store) e (rest store) in
        (r.0, inside h (subst (λ (b : Bool). Acts s.patch now x a b w) (open_after_lem B ∙ e) B) o r.1)
    by a q w B o rest false e =
        let r : Rest false w w = subst (λ (b : Bool). Rest b w w) e (rest w) in
        (r.0, outside h (subst (λ (b : Bool). Acts s.patch now x a b w) (open_after_lem B ∙ e) B) o r.1)

-- ---- the loop

-- for the code
pub can : {l : List ℕ} {s : Seen} → is_cut s.ending ≡ true → s.at + length l < 2 ^ 64 → s.left ≤ s.at → CanBe l s
can e h f = record { cut = e; within = h; few = f }

pub cannot : {z : Slices} {l : List ℕ} {s : Seen} → (CanBe l s → ⊥) → ScanClaim z l s s
cannot f = record { reads = λ C. absurd (f C); stays = λ g. refl }

pub behind_so : (x : Step) (s : Seen) {k kept left : ℕ} {live p : Bool} → k ≡ size x → live ≡ live_after s.live x → p ≡ open_after s.patch x
    → kept ≡ cond p s.kept (s.at + k) → left ≡ cond p (s.left + calls_of x) 0 → seen kept (s.at + k) left live p E.Cut ≡ behind x s
unfolding behind
behind_so x s {k} {live = live} {p} q b o f g =
    (λ i. seen (f i) (s.at + k) (g i) live p E.Cut)
    ∙ (λ i. seen (cond (o i) s.kept (s.at + q i)) (s.at + q i) (cond (o i) (s.left + calls_of x) 0) (b i) (o i) E.Cut)

-- what the bytes from where t stands leave, all of them leave of s
pub record Scanning (z : Slices) (l : List ℕ) (s t : Seen) : Type 0 where
  pub then : (u : Seen) → Scans z (drop (t.at - s.at) l) t u → Scans z l s u
  pub from : s.at ≤ t.at
  pub within : t.at ≤ s.at + length l
  pub few : t.left ≤ t.at

pub scan_start : (z : Slices) (l : List ℕ) (s : Seen) → s.left ≤ s.at → Scanning z l s s
scan_start z l s h =
    let e : s.at - s.at ≡ 0 = omega arith in
    record {
      then = λ u S. subst (λ (i : ℕ). Scans z (drop i l) s u) e S;
      from = omega arith;
      within = omega arith;
      few = h;
    }

module _ (z : Slices) (l : List ℕ) (s t : Seen) (I : Scanning z l s t) where
  -- nothing more is read
  pub scan_ends : {e : Ending} → Admits z t.live t.patch (drop (t.at - s.at) l) (Err e) → Scans z l s (stopped_by e t)
  scan_ends (no_step h) = I.then _ (stops h)
  scan_ends (refused h N) = I.then _ (gets h N)

  -- a step more
  pub scan_room : {x : Step} → Admits z t.live t.patch (drop (t.at - s.at) l) (Ok x) → (0 < size x) × (t.at + size x ≤ s.at + length l)
  scan_room (step h N) =
      let n = next_size (drop (t.at - s.at) l) h in
      (n.0, omega (arith, n.1, length-drop (t.at - s.at) l, I.from, I.within))

  pub scan_goes : {x : Step} → Admits z t.live t.patch (drop (t.at - s.at) l) (Ok x) → Scanning z l s (behind x t)
  unfolding behind
  scan_goes {x} (step h N) =
      let n = scan_room (step h N) in
      let i : t.at + size x - s.at ≡ t.at - s.at + size x = omega (arith, I.from) in
      let d : drop (t.at + size x - s.at) l ≡ drop (size x) (drop (t.at - s.at) l) =
      ap (λ (j : ℕ). drop j l) i ∙ sym (drop-drop (size x) (t.at - s.at) l)
      in
      record {
        then = λ u R. I.then u (goes h N (subst (λ (m : List ℕ). Scans z m (behind x t) u) d R));
        from = omega (arith, I.from);
        within = n.1;
        few = behind_left x t n.0 I.few;
      }
