-- Clear: what is free afterwards, and in which order it is taken.
use mathlib.Core.Path.{◌≡◌, refl, sym, ap, ◌∙◌}
use mathlib.Core.Logic.{◌≢◌, inl, inr, ⊎_elim, by_cases}
use mathlib.Core.Bool.{Bool, true, false, not, cond, true≢false, and-eq-true_iff}
use mathlib.Core.List.{List, [], ◌∷◌, ◌++◌}
use Prim.Native.Nat.{ℕ, zero, suc, ◌+◌, ◌≤◌, ◌<◌}
use native.Mathlib.Decide.{ℕ_discrete, dec_lt}
use native.Mathlib.Omega.{arith}
use lib.Dec.{eqb, ltb}
use borrow.Author.Tests.{eq-eqb, ne_eqb, lt-ltb, le-ltb}
use Rattle.links.specs.Lists.{Mem, without}
use Rattle.links.proofs.laws.Lists.{Nodup, change_same, change_other, mem_app}
use Rattle.places.specs.Places.{free, put}
use Rattle.places.proofs.laws.Whole as place_laws
use Rattle.queue.specs.declared.Answer.{Answer}
use Rattle.queue.specs.Told.{told}
use Rattle.queue.specs.Told as T
use Rattle.records.specs.View.{View}
use Rattle.records.specs.Records.{last_turn, At, left, freed}
use Rattle.queue.specs.Steps.{Clears, begun, kept, gave}
use Rattle.records.specs.Words.{QueueWords, count, view, Sound}
use Rattle.records.proofs.laws.Words.{upd_same, upd_other}
use Rattle.records.proofs.laws.Inner.{mark_at}
use Rattle.delay_queue.specs.Claims.{ClearClaim}
use Rattle.promises.specs.Looking.{is_pending}
use Rattle.promises.proofs.laws.Looking.{pending_exactly}
use Rattle.promises.specs.KeysOne.{raised}
use Rattle.promises.proofs.laws.KeysOne.{freed_last, freed_more}
use Rattle.promises.specs.Cleared.{comes_back, falling, Cleared}

-- ---- what is left of a list when all below k have gone

from : ℕ → List ℕ → List ℕ
from k [] = []
from k (x ∷ l) = cond (ltb x k) (from k l) (x ∷ from k l)

from_less : (k x : ℕ) (l : List ℕ) → x < k → from k (x ∷ l) ≡ from k l
unfolding from
from_less k x l h = rw (lt-ltb x k h)

from_more : (k x : ℕ) (l : List ℕ) → k ≤ x → from k (x ∷ l) ≡ x ∷ from k l
unfolding from
from_more k x l h = rw (le-ltb x k h)

from_zero : (l : List ℕ) → from 0 l ≡ l
unfolding from
from_zero [] = refl
from_zero (x ∷ l) = from_more 0 x l (omega arith) ∙ ap (λ m. x ∷ m) (from_zero l)

from_all : (k : ℕ) (l : List ℕ) → ((i : ℕ) → Mem i l → i < k) → from k l ≡ []
unfolding from
from_all k [] h = refl
from_all k (x ∷ l) h = from_less k x l (h x (inl refl)) ∙ from_all k l (λ i m. h i (inr m))

mem_from : (k i : ℕ) (l : List ℕ) → k ≤ i → Mem i l → Mem i (from k l)
mem_from k i [] h m = absurd m
mem_from k i (x ∷ l) h (inl e) = rw (from_more k x l (omega arith)) (inl e)
mem_from k i (x ∷ l) h (inr m) =
    by_cases (dec_lt x k)
    (λ g. rw (from_less k x l g) (mem_from k i l h m))
    (λ g. rw (from_more k x l (omega arith)) (inr (mem_from k i l h m)))

from_mem : (k i : ℕ) (l : List ℕ) → Mem i (from k l) → Mem i l
unfolding from
from_mem k i [] m = m
from_mem k i (x ∷ l) m =
    by_cases (dec_lt x k)
    (λ g. inr (from_mem k i l (rw (lt-ltb x k g) at m)))
    (λ g. ⊎_elim (λ e. inl e) (λ n. inr (from_mem k i l n)) (rw (le-ltb x k (omega arith)) at m))

-- k is not in the list
from_out : (k : ℕ) (l : List ℕ) → (Mem k l → ⊥) → from k l ≡ from (suc k) l
unfolding from
from_out k [] f = refl
from_out k (x ∷ l) f =
    by_cases (dec_lt x k)
    (λ g. from_less k x l g ∙ from_out k l (λ m. f (inr m)) ∙ sym (from_less (suc k) x l (omega arith)))
    (λ g.
    from_more k x l (omega (arith, g)) ∙ ap (λ m. x ∷ m) (from_out k l (λ m. f (inr m)))
    ∙ sym (from_more (suc k) x l (by_cases (ℕ_discrete k x) (λ e. absurd (f (inl e))) (λ d. omega arith))))

-- or it goes
from_without : (k : ℕ) (l : List ℕ) → Nodup l → without k (from k l) ≡ from (suc k) l
unfolding from
from_without k [] n = refl
from_without k (x ∷ l) n =
    by_cases (dec_lt x k)
    (λ g. ap (without k) (from_less k x l g) ∙ from_without k l n.1 ∙ sym (from_less (suc k) x l (omega arith)))
    (λ g.
    by_cases (ℕ_discrete x k)
    (λ e.
    ap (without k) (from_more k x l (omega (arith, g))) ∙ rw (eq-eqb x k e) (from_out k l (λ m. n.0 (rw e m)))
    ∙ sym (from_less (suc k) x l (omega arith)))
    (λ d.
    ap (without k) (from_more k x l (omega arith)) ∙ rw (ne_eqb x k d) (ap (λ m. x ∷ m) (from_without k l n.1))
    ∙ sym (from_more (suc k) x l (omega arith))))

-- ---- the first k records are done

record Upto (s : QueueWords) (k : ℕ) (u : View) : Type 0 where
  size : u.n ≡ count s
  waiting : (p : ℕ) → p < free → u.lists p ≡ from k ((view s).lists p)
  freed : u.lists free ≡ falling (comes_back s) k ++ (view s).lists free
  raised : (i : ℕ) → i < k → comes_back s i ≡ true → u.turn i ≡ (view s).turn i + 1
  same : (i : ℕ) → (i < k → comes_back s i ≡ false) → u.turn i ≡ (view s).turn i
  values : u.value ≡ (view s).value
  periods : u.period ≡ (view s).period
  deadlines : u.deadline ≡ (view s).deadline

begun_so : (s : QueueWords) → Upto s 0 (view s)
begun_so s =
    record {
      size = refl;
      waiting = λ p h. sym (from_zero ((view s).lists p));
      freed = refl;
      raised = λ i h e. absurd (omega arith);
      same = λ i f. refl;
      values = refl;
      periods = refl;
      deadlines = refl;
    }

falling_no : (f : ℕ → Bool) (k : ℕ) → f k ≡ false → falling f (suc k) ≡ falling f k
falling_no f k e = rw e

falling_yes : (f : ℕ → Bool) (k : ℕ) → f k ≡ true → falling f (suc k) ≡ k ∷ falling f k
falling_yes f k e = rw e

not_true : (b : Bool) → (b ≡ true → ⊥) → b ≡ false
not_true true f = absurd (f refl)
not_true false f = refl

module _ {s : QueueWords} (S : Sound s) {k : ℕ} {u : View} (U : Upto s k u) where
  -- record k does not come back: turns and the free list stay
  stays : {v : View} → comes_back s k ≡ false → v.n ≡ u.n → v.lists free ≡ u.lists free → v.turn ≡ u.turn → v.value ≡ u.value
      → v.period ≡ u.period → v.deadline ≡ u.deadline → ((p : ℕ) → p < free → v.lists p ≡ from (suc k) ((view s).lists p)) → Upto s (suc k) v
  stays {v} z n f t a b d w =
      record {
        size = n ∙ U.size;
        waiting = w;
        freed = f ∙ U.freed ∙ ap (λ l. l ++ (view s).lists free) (sym (falling_no (comes_back s) k z));
        raised = λ i h e.
            by_cases (ℕ_discrete i k)
            (λ q. absurd (true≢false (sym e ∙ ap (comes_back s) q ∙ z)))
            (λ q. ap (λ g. g i) t ∙ U.raised i (omega arith) e);
        same = λ i g. ap (λ g. g i) t ∙ U.same i (λ h. g (omega arith));
        values = a ∙ U.values;
        periods = b ∙ U.periods;
        deadlines = d ∙ U.deadlines;
      }

  kept_so : k < count s → ((p : ℕ) → At u k p → ⊥) → Upto s (suc k) u
  kept_so h n =
      let out : (p : ℕ) → p < free → Mem k ((view s).lists p) → ⊥
      = λ p g m. n p (record { timed = g; member = rw (U.waiting p g) (mem_from k k ((view s).lists p) (omega arith) m) }) in
      let e : is_pending s k ≡ false
      = not_true (is_pending s k) (λ z. let r = (pending_exactly S k h).0 z in out r.0 r.1.timed r.1.member) in
      stays (rw e) refl refl refl refl refl refl (λ p g. U.waiting p g ∙ from_out k ((view s).lists p) (out p g))

  module _ (h : k < count s) {p : ℕ} (a : At u k p) where
    was : At (view s) k p
    was = record { timed = a.timed; member = from_mem k k ((view s).lists p) (rw (U.waiting p a.timed) at a.member) }

    left_waiting : (q : ℕ) → q < free → (left p k u).lists q ≡ from (suc k) ((view s).lists q)
    unfolding left
    left_waiting q g =
        by_cases (ℕ_discrete q p)
        (λ e.
        rw e (change_same u.lists p (without k (u.lists p)) ∙ ap (without k) (U.waiting p a.timed)
        ∙ from_without k ((view s).lists p) (place_laws.list_nodup S.standing.whole.places p)))
        (λ d.
        change_other u.lists p (without k (u.lists p)) q d ∙ U.waiting q g
        ∙ from_out k ((view s).lists q) (λ m. d (sym (place_laws.member_mark S.standing.whole.places q k m)
        ∙ mark_at S.standing was)))

    left_free : (left p k u).lists free ≡ u.lists free
    unfolding left
    left_free = change_other u.lists p (without k (u.lists p)) free (omega arith)

    turn_now : u.turn k ≡ (view s).turn k
    turn_now = U.same k (λ g. absurd (omega arith))

    -- it is pending, so its turn alone decides
    back_is : comes_back s k ≡ not (eqb ((view s).turn k) last_turn)
    back_is = let e : is_pending s k ≡ true = (pending_exactly S k h).1 p was in rw e

    -- and comes to the head of the free list
    back_so : comes_back s k ≡ true → Upto s (suc k) (raised k (left p k u))
    unfolding left put
    back_so z =
        let L = (left p k u).lists in
        record {
          size = U.size;
          waiting = λ q g. change_other L free (put free k (L free)) q (omega arith) ∙ left_waiting q g;
          freed = change_same L free (put free k (L free)) ∙ ap (λ l. k ∷ l) (left_free ∙ U.freed)
              ∙ ap (λ l. l ++ (view s).lists free) (sym (falling_yes (comes_back s) k z));
          raised = λ i g e.
              by_cases (ℕ_discrete i k)
              (λ q. rw q (upd_same u.turn k (u.turn k + 1) ∙ ap (λ n. n + 1) turn_now))
              (λ q. upd_other u.turn k (u.turn k + 1) i q ∙ U.raised i (omega arith) e);
          same = λ i f.
              by_cases (ℕ_discrete i k)
              (λ q. absurd (true≢false (sym z ∙ ap (comes_back s) (sym q) ∙ f (omega arith))))
              (λ q. upd_other u.turn k (u.turn k + 1) i q ∙ U.same i (λ g. f (omega arith)));
          values = U.values;
          periods = U.periods;
          deadlines = U.deadlines;
        }

    gave_so : Upto s (suc k) (freed k (left p k u))
    unfolding left
    gave_so =
        let v = left p k u in
        by_cases (ℕ_discrete ((view s).turn k) last_turn)
        (λ e.
        let z : comes_back s k ≡ false = back_is ∙ ap not (eq-eqb ((view s).turn k) last_turn e) in
        rw (freed_last k v (turn_now ∙ e)) (stays z refl left_free refl refl refl refl left_waiting))
        (λ d.
        let z : comes_back s k ≡ true = back_is ∙ ap not (ne_eqb ((view s).turn k) last_turn d) in
        rw (freed_more k v (λ e. d (sym turn_now ∙ e))) (back_so z))

upto : {s : QueueWords} → Sound s → {k : ℕ} {u : View} → Clears (view s) k u → k ≤ count s → Upto s k u
upto {s} S begun h = begun_so s
upto S (kept r n) h = kept_so S (upto S r (omega arith)) h n
upto S (gave r a) h = gave_so S (upto S r (omega arith)) h a

-- ---- the promise

-- the test passes exactly the pending records whose turn is not the last
pub back_exactly : {s : QueueWords} → Sound s → (i : ℕ) → i < count s
    → (comes_back s i ≡ true → ((p : ℕ) × At (view s) i p) × ((view s).turn i ≢ last_turn))
    × ((p : ℕ) → At (view s) i p → (view s).turn i ≢ last_turn → comes_back s i ≡ true)
back_exactly {s} S i h = (
  λ e.
      let z = (and-eq-true_iff (is_pending s i) (not (eqb ((view s).turn i) last_turn))).0 e in
      ((pending_exactly S i h).0 z.0, λ q. true≢false (cc)),
  λ p a d. let e : is_pending s i ≡ true = (pending_exactly S i h).1 p a in rw (e, ne_eqb ((view s).turn i) last_turn d),
)

mem_falling : (f : ℕ → Bool) (n i : ℕ) → Mem i (falling f n) → f i ≡ true
mem_falling f zero i m = absurd m
mem_falling f (suc n) i m = by (f n) refl (mem_falling f n i) m
  where
    by : (b : Bool) → f n ≡ b → (Mem i (falling f n) → f i ≡ true) → Mem i (cond b (n ∷ falling f n) (falling f n)) → f i ≡ true
    by true e ih (inl q) = ap f q ∙ e
    by true e ih (inr k) = ih k
    by false e ih k = ih k

-- what an accepted clear leaves, and every clear of a sound store is accepted
pub clear_order : {s t : QueueWords} {a : Answer} → ClearClaim s a t → Sound s → (told a ≡ T.ok) × Cleared s t
clear_order {s} {t} C S =
    let K = C.good S in
    let U = upto S K.clears (omega arith) in
    let E = K.done.view in
    let W = S.standing.whole.places in
    let listed : (p : ℕ) → (view t).lists p ≡ K.cleared.lists p = λ p. ap (λ v. v.lists p) E in
    let empty : (p : ℕ) → p < free → (view t).lists p ≡ []
    = λ p h. listed p ∙ U.waiting p h ∙ from_all (count s) ((view s).lists p) (λ i m. place_laws.member_below W p i m) in
    let freed : (view t).lists free ≡ falling (comes_back s) (count s) ++ (view s).lists free = listed free ∙ U.freed in
    let retired : (i p : ℕ) → At (view s) i p → (view s).turn i ≡ last_turn → Mem i ((view t).lists free) → ⊥
    = λ i p a e m.
    ⊎_elim
    (λ k. ((back_exactly S i (place_laws.member_below W p i a.member)).0 (mem_falling (comes_back s) (count s) i k)).1 e)
    (λ k. omega (arith, mark_at S.standing a, place_laws.member_mark W free i k))
    (mem_app i (falling (comes_back s) (count s)) ((view s).lists free) (rw freed at m)) in (
      K.done.told,
      record {
        size = ap (λ v. v.n) E ∙ U.size;
        clock = ap (λ v. v.elapsed) E;
        empty = empty;
        freed = freed;
        raised = λ i h e. ap (λ v. v.turn i) E ∙ U.raised i h e;
        same = λ i f. ap (λ v. v.turn i) E ∙ U.same i f;
        retired = λ i p a e q m.
            by_cases (dec_lt q free)
            (λ h. rw (empty q h) at m)
            (λ h.
            let z : q ≡ free = omega (arith, place_laws.member_place K.done.sound.standing.whole.places q i m) in
            retired i p a e (rw z at m));
        values = ap (λ v. v.value) E ∙ U.values;
        periods = ap (λ v. v.period) E ∙ U.periods;
        deadlines = ap (λ v. v.deadline) E ∙ U.deadlines;
      },
    )
