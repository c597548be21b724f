-- A store cut to what its N records need. Stores that are cut alike are sound together (`alike_sound`), as links that agree below N hold one family, and have
-- the same view below N (`alike_views`), as the view of a cut store is the store's with 0 past N (`cut_view`).
use mathlib.Core.Path.{◌≡◌, refl, sym, ap, ◌∙◌, subst, fun_ext}
use mathlib.Core.Logic.{inl, inr, ⊎_elim, by_cases}
use mathlib.Core.Bool.{cond}
use mathlib.Core.List.{List}
use Prim.Native.Nat.{ℕ, ◌+◌, ◌*◌, ◌≤◌, ◌<◌}
use native.Mathlib.Decide.{ℕ_discrete, dec_lt}
use native.Mathlib.Omega.{arith}
use lib.Dec.{ltb}
use lib.ListN.{length, take, length-take, get_or-eq_default}
use lib.Seq.{get_or-take, take-take, length-take-le}
use borrow.Author.Tests.{lt-ltb, le-ltb}
use Rattle.links.specs.Lists.{nobody, Mem, last_d}
use Rattle.links.specs.Family.{Net, Fam}
use Rattle.links.specs.Links.{links, at, net}
use Rattle.links.specs.Whole.{Kept}
use Rattle.links.proofs.laws.Fixed.{Same}
use Rattle.links.proofs.laws.Segments.{seg_frame}
use Rattle.links.proofs.laws.Walk.{fam_lists}
use Rattle.places.specs.Places.{places}
use Rattle.places.specs.Words.{place_words, head_at}
use Rattle.places.specs.Whole as places
use Rattle.places.proofs.laws.Whole as place_laws
use Rattle.wheel.specs.Wheel.{Lists, Rule}
use Rattle.wheel.specs.Between.{Draining}
use Rattle.wheel.specs.Midway.{Obeys}
use Rattle.wheel.specs.Words.{wheel_words, lists as listsIn}
use Rattle.records.specs.Slices.{Room}
use Rattle.records.specs.View.{View, view_of, upd}
use Rattle.records.specs.Words.{QueueWords, queue_words, count, elapsed, view, slices, Sound, PastKept}
use Rattle.records.proofs.laws.View.{view_eq}
use Rattle.records.proofs.laws.Words.{upd_same, upd_other, view_fixed}
use Rattle.promises.specs.Alike.{up_to, cut, Alike, AlikeViews}

-- ---- the first n words of a slice

record Agree (n : ℕ) (l m : List ℕ) : Type 0 where
  room : n ≤ length l → n ≤ length m
  same : (i : ℕ) → i < n → at m i ≡ at l i

agree : (n k : ℕ) {l m : List ℕ} → n ≡ k → take n l ≡ take k m → Agree n l m
agree n k {l} {m} c e =
    let q : take n l ≡ take n m = e ∙ ap (λ j. take j m) (sym c) in
    record {
      room = λ h. omega (arith, length-take n l, length-take n m, ap length q);
      same = λ i h. sym (get_or-take n m i 0 h) ∙ sym (ap (λ k. at k i) q) ∙ get_or-take n l i 0 h;
    }

-- ---- links that agree below n hold the same family: its members are below n

fam_agree : {P n : ℕ} {s t : Net} {L : ℕ → List ℕ} → Same n s t → Fam P n s L → Fam P n t L
fam_agree {P} {n} {s} {t} {L} K F =
    record {
      few = F.few;
      small = F.small;
      heads = λ p. K.heads p ∙ F.heads p;
      segs = λ p.
          seg_frame s.nx s.pv t.nx t.pv (last_d nobody (L p)) (L p) nobody (λ x m. K.next x (F.mems p x m).below)
          (λ x m. K.prev x (F.mems p x m).below) (F.segs p);
      mems = λ p i m. let M = F.mems p i m in record { place = M.place; below = M.below; mark = K.mark i M.below ∙ M.mark };
      cover = λ i h.
          ⊎_elim
          (λ m. inl (subst (λ q. Mem i (L q)) (sym (K.mark i h)) m))
          (λ o. inr (record { mark = rw (K.mark i h) o.mark; next = K.next i h ∙ o.next; prev = K.prev i h ∙ o.prev }))
          (F.cover i h);
    }

rule_agree : {d f : ℕ → ℕ} {e : ℕ} {L : Lists} → ((p x : ℕ) → Mem x (L p) → f x ≡ d x) → Rule d e L → Rule f e L
rule_agree k R =
    record {
      wheel = λ p x h m. rw (k p x m) (R.wheel p x h m);
      parked = λ x m. rw (k _ x m) (R.parked x m);
      expired = λ x m. k _ x m ∙ R.expired x m;
    }

draining_agree : {d f : ℕ → ℕ} {k h e : ℕ} {L : Lists} → ((p x : ℕ) → Mem x (L p) → f x ≡ d x) → Draining d k h e L → Draining f k h e L
draining_agree {h = h} a D =
    record {
      spot = λ q y b m. rw (a q y m) (D.spot q y b m);
      hand = λ y m. rw (a h y m) (D.hand y m);
      low = D.low;
      later = λ q y b n m g. rw (a q y m) (D.later q y b n m g);
      parked = λ y n m. rw (a _ y m) (D.parked y n m);
    }

obeys_agree : {d f : ℕ → ℕ} {u h e : ℕ} {L : Lists} → ((p x : ℕ) → Mem x (L p) → f x ≡ d x) → Obeys d u h e L → Obeys f u h e L
obeys_agree a O =
    record {
      free = λ z. rule_agree a (O.free z);
      inside = λ z.
          let I = O.inside z in
          record {
            high = I.high;
            below = I.below;
            filled = I.filled;
            expired = I.expired;
            late = I.late;
            due = I.due;
            rule = draining_agree a I.rule;
            own = I.own;
          };
    }

-- ---- stores that are cut alike

-- the state and the heads of s, over the slices of t
abbrev over : QueueWords → QueueWords → QueueWords
over s t =
    queue_words (wheel_words (elapsed s) s.wheel.occupied (place_words s.wheel.places.tops s.wheel.places.heads t.wheel.places.links))
    t.values t.deadlines t.turns s.hand s.until

module _ {s t : QueueWords} (A : Alike s t) where
  over_is : over s t ≡ t
  unfolding up_to
  over_is = λ i.
      queue_words
      (wheel_words (A.same i).wheel.elapsed (A.same i).wheel.occupied
      (place_words (A.same i).wheel.places.tops (A.same i).wheel.places.heads t.wheel.places.links))
      t.values t.deadlines t.turns (A.same i).hand (A.same i).until

  pub alike_size : count s ≡ count t
  unfolding up_to
  alike_size = ap (λ u. count u) A.same

  nexts : Agree (count s) s.wheel.places.links.nexts t.wheel.places.links.nexts
  unfolding up_to
  nexts = agree (count s) (count t) alike_size (ap (λ u. u.wheel.places.links.nexts) A.same)

  prevs : Agree (count s) s.wheel.places.links.prevs t.wheel.places.links.prevs
  unfolding up_to
  prevs = agree (count s) (count t) alike_size (ap (λ u. u.wheel.places.links.prevs) A.same)

  marks : Agree (count s) s.wheel.places.links.marks t.wheel.places.links.marks
  unfolding up_to
  marks = agree (count s) (count t) alike_size (ap (λ u. u.wheel.places.links.marks) A.same)

  values : Agree (2 * count s) s.values t.values
  unfolding up_to
  values = agree (2 * count s) (2 * count t) (ap (λ k. 2 * k) alike_size) (ap (λ u. u.values) A.same)

  deadlines : Agree (count s) s.deadlines t.deadlines
  unfolding up_to
  deadlines = agree (count s) (count t) alike_size (ap (λ u. u.deadlines) A.same)

  turns : Agree (count s) s.turns t.turns
  unfolding up_to
  turns = agree (count s) (count t) alike_size (ap (λ u. u.turns) A.same)

  module _ (S : Sound s) where
    over_fam : Fam places (count s) (net (head_at s.wheel.places) t.wheel.places.links) (listsIn s.wheel)
    unfolding places.lists
    over_fam =
        fam_agree (record { heads = λ p. refl; next = nexts.same; prev = prevs.same; mark = marks.same })
        S.standing.whole.places.held.fam

    over_lists : listsIn (over s t).wheel ≡ listsIn s.wheel
    unfolding places.lists
    over_lists = fam_lists over_fam

    over_room : Room (count s) (slices (over s t))
    over_room =
        let Z = S.standing.fits.room in
        record {
          values = values.room Z.values;
          deadlines = deadlines.room Z.deadlines;
          links = record { nexts = nexts.room Z.links.nexts; prevs = prevs.room Z.links.prevs; marks = marks.room Z.links.marks };
          turns = turns.room Z.turns;
        }

    over_sound : Sound (over s t)
    unfolding places.lists
    over_sound =
        let T = S.standing in
        let W = T.whole in
        record {
          standing = record {
            fits = record { some = T.fits.some; few = T.fits.few; room = over_room };
            whole = record {
              places = record { shape = W.places.shape; held = record { room = over_room.links; fam = rw over_lists over_fam } };
              occupied = rw over_lists W.occupied;
            };
            turns = λ i h. rw (turns.same i h) (T.turns i h);
            retired = λ i h d m.
                let r = T.retired i h d (omega (arith, m, marks.same i h)) in (marks.same i h ∙ r.0, turns.same i h ∙ r.1);
          };
          rule = rw over_lists (obeys_agree (λ p x m. deadlines.same x (place_laws.member_below W.places p x m)) S.rule);
          no_now = S.no_now;
        }

    -- a store is sound, or not, by what its N records have
    pub alike_sound : Sound t
    alike_sound = subst (λ u. Sound u) over_is over_sound

    pub alike_lists : (view s).lists ≡ (view t).lists
    alike_lists = sym over_lists ∙ ap (λ u. listsIn u.wheel) over_is

-- it is an equality of what N records have
pub alike_refl : (s : QueueWords) → Alike s s
alike_refl s = record { same = refl }

pub alike_sym : {s t : QueueWords} → Alike s t → Alike t s
alike_sym A = record { same = sym A.same }

pub alike_trans : {s t u : QueueWords} → Alike s t → Alike t u → Alike s u
alike_trans A B = record { same = A.same ∙ B.same }

-- ---- a store and what is left of it

pub cut_alike : (s : QueueWords) → Alike s (cut s)
unfolding up_to
cut_alike s =
    let n = count s in
    let t = s.wheel.places in
    let same : (l : List ℕ) → take n l ≡ take n (take n l) = λ l. sym (take-take n n l (omega arith)) in
    let two : take (2 * n) s.values ≡ take (2 * n) (take (2 * n) s.values) = sym (take-take (2 * n) (2 * n) s.values (omega arith)) in
    record {
      same = λ i.
          queue_words
          (wheel_words (elapsed s) s.wheel.occupied
          (place_words t.tops t.heads (links (same t.links.nexts i) (same t.links.prevs i) (same t.links.marks i))))
          (two i) (same s.deadlines i) (same s.turns i) s.hand s.until;
    }

pub cut_sound : {s : QueueWords} → Sound s → Sound (cut s)
cut_sound {s} S = alike_sound (cut_alike s) S

pub sound_cut : {s : QueueWords} → Sound (cut s) → Sound s
sound_cut {s} S = alike_sound (alike_sym (cut_alike s)) S

-- ---- functions of a record, with 0 past n

unfoldable pub below : ℕ → (ℕ → ℕ) → ℕ → ℕ
below n f i = cond (ltb i n) (f i) 0

pub below_lt : (n : ℕ) (f : ℕ → ℕ) {i : ℕ} → i < n → below n f i ≡ f i
unfolding below
below_lt n f {i} h = rw (lt-ltb i n h)

below_past : (n : ℕ) (f : ℕ → ℕ) {i : ℕ} → n ≤ i → below n f i ≡ 0
unfolding below
below_past n f {i} h = rw (le-ltb i n h)

below_is : (n : ℕ) (f g : ℕ → ℕ) → ((i : ℕ) → i < n → f i ≡ g i) → ((i : ℕ) → n ≤ i → f i ≡ 0) → f ≡ below n g
below_is n f g e z =
    fun_ext (λ i.
    by_cases (dec_lt i n)
    (λ h. e i h ∙ sym (below_lt n g h))
    (λ h. let k : n ≤ i = omega (arith, h) in z i k ∙ sym (below_past n g k)))

pub below_ext : (n : ℕ) (f g : ℕ → ℕ) → ((i : ℕ) → i < n → f i ≡ g i) → below n f ≡ below n g
below_ext n f g e = below_is n (below n f) g (λ i h. below_lt n f h ∙ e i h) (λ i h. below_past n f h)

pub below_upd : (n : ℕ) (f : ℕ → ℕ) (r x : ℕ) → r < n → below n (upd f r x) ≡ upd (below n f) r x
below_upd n f r x h =
    sym (below_is n (upd (below n f) r x) (upd f r x)
    (λ i k.
    by_cases (ℕ_discrete i r)
    (λ (e : i ≡ r). rw e (upd_same (below n f) r x ∙ sym (upd_same f r x)))
    (λ d. upd_other (below n f) r x i d ∙ below_lt n f k ∙ sym (upd_other f r x i d)))
    (λ i k. upd_other (below n f) r x i (omega (arith, h, k)) ∙ below_past n f k))

-- the words of a slice, at the index that g gives for a record
take_below : (g : ℕ → ℕ) (n m : ℕ) (l : List ℕ) → ((i : ℕ) → i < n → g i < m) → ((i : ℕ) → n ≤ i → m ≤ g i)
    → (λ i. at (take m l) (g i)) ≡ below n (λ i. at l (g i))
take_below g n m l f h =
    below_is n (λ i. at (take m l) (g i)) (λ i. at l (g i))
    (λ i k. get_or-take m l (g i) 0 (f i k))
    (λ i k. get_or-eq_default (take m l) 0 (omega (arith, length-take m l, h i k)))

-- ---- the view of a cut store

-- the view with nothing past N
abbrev pub masked : View → View
masked v =
    view_of v.n v.elapsed v.lists (below v.n v.value) (below v.n v.period) (below v.n v.deadline) (below v.n v.turn)
    v.hand v.until

pub cut_view : {s : QueueWords} → Sound s → view (cut s) ≡ masked (view s)
unfolding up_to
cut_view {s} S =
    let n = count s in
    let one : (l : List ℕ) → at (take n l) ≡ below n (at l) = λ l. take_below (λ i. i) n n l (λ i h. h) (λ i h. h) in
    view_eq refl refl (sym (alike_lists (cut_alike s) S))
    (take_below (λ i. 2 * i) n (2 * n) s.values (λ i h. omega (arith, h)) (λ i h. omega (arith, h)))
    (take_below (λ i. 2 * i + 1) n (2 * n) s.values (λ i h. omega (arith, h)) (λ i h. omega (arith, h)))
    (one s.deadlines) (one s.turns)

-- nothing is past N in a cut store
kept_take : (n : ℕ) (l m : List ℕ) → n ≤ length l → n ≤ length m → Kept n (take n l) (take n m)
kept_take n l m h g =
    let a = length-take-le n l h in
    let b = length-take-le n m g in
    record {
      size = b ∙ sym a;
      past = λ j k. get_or-eq_default (take n m) 0 (omega (arith, b, k)) ∙ sym (get_or-eq_default (take n l) 0 (omega (arith, a, k)));
    }

past_up_to : (n : ℕ) (s t : QueueWords) → Room n (slices s) → Room n (slices t) → PastKept n (up_to n s) (up_to n t)
unfolding up_to
past_up_to n s t Y Z =
    record {
      links = record {
        nexts = kept_take n _ _ Y.links.nexts Z.links.nexts;
        prevs = kept_take n _ _ Y.links.prevs Z.links.prevs;
        marks = kept_take n _ _ Y.links.marks Z.links.marks;
      };
      values = kept_take (2 * n) _ _ Y.values Z.values;
      deadlines = kept_take n _ _ Y.deadlines Z.deadlines;
      turns = kept_take n _ _ Y.turns Z.turns;
    }

pub cut_kept : {s t : QueueWords} → Sound s → Sound t → count t ≡ count s → PastKept (count (cut s)) (cut s) (cut t)
unfolding up_to
cut_kept {s} {t} S T e =
    subst (λ k. PastKept (count s) (cut s) (up_to k t)) (sym e)
    (past_up_to (count s) s t S.standing.fits.room (subst (λ k. Room k (slices t)) e T.standing.fits.room))

-- sound stores are alike where their views are so
pub views_alike : {s t : QueueWords} → Sound s → Sound t → masked (view s) ≡ masked (view t) → Alike s t
views_alike S T e =
    record { same = view_fixed (cut_sound T) (cut_sound S) (cut_view S ∙ e ∙ sym (cut_view T)) (cut_kept T S (ap (λ v. v.n) e)) }

-- and only there
alike_masked : {s t : QueueWords} → Alike s t → Sound s → masked (view s) ≡ masked (view t)
alike_masked A S = sym (cut_view S) ∙ ap (λ u. view u) A.same ∙ cut_view (alike_sound A S)

pub alike_views : {s t : QueueWords} → Alike s t → Sound s → AlikeViews (view s) (view t)
alike_views {s} {t} A S =
    let e = alike_masked A S in
    let c : count s ≡ count t = ap (λ v. v.n) e in
    let at_each : (f g : ℕ → ℕ) → below (count s) f ≡ below (count t) g → (i : ℕ) → i < count s → f i ≡ g i
    = λ f g q i h. sym (below_lt (count s) f h) ∙ ap (λ k. k i) q ∙ below_lt (count t) g (omega (arith, c, h)) in
    record {
      size = c;
      elapsed = ap (λ v. v.elapsed) e;
      lists = ap (λ v. v.lists) e;
      value = at_each _ _ (ap (λ v. v.value) e);
      period = at_each _ _ (ap (λ v. v.period) e);
      deadline = at_each _ _ (ap (λ v. v.deadline) e);
      turn = at_each _ _ (ap (λ v. v.turn) e);
      hand = ap (λ v. v.hand) e;
      until = ap (λ v. v.until) e;
    }
