-- A store with a poll in hand is sound exactly if a limited poll of a sound store at rest leaves it, words and all (`midway_exactly`): over lists that is the
-- wheel's law, and the words are found by taking each moved entry out of the list that it joined and putting it back at the head of the drained slot.
use mathlib.Core.Path.{◌≡◌, refl, sym, ap, ◌∙◌, subst, fun_ext}
use mathlib.Core.Logic.{◌↔◌, inl, by_cases}
use mathlib.Core.List.{List, [], ◌∷◌, ◌++◌, append-nil}
use mathlib.Core.Option.{Option, none, some}
use Prim.Native.Nat.{ℕ, zero, suc, ◌-◌, ◌≤◌, ◌<◌}
use native.Mathlib.Omega.{arith}
use native.Mathlib.Decide.{ℕ_discrete}
use Rattle.row.specs.Row.{row_of}
use Rattle.times.specs.Times.{slot_of}
use Rattle.times.proofs.laws.Quotients.{slot_lt}
use Rattle.links.specs.Lists.{nobody, Mem, without, change}
use Rattle.links.proofs.laws.Lists.{Nodup, nodup_apart, mem_right, without_split, change_same, change_other}
use Rattle.links.specs.Links.{at}
use Rattle.links.proofs.laws.Whole as links_laws
use Rattle.places.specs.Places.{slot_place, slots, expired, places, put, level_at}
use Rattle.places.proofs.laws.Places.{put_tail}
use Rattle.places.proofs.laws.Heads.{upd_head}
use Rattle.places.specs.Words.{PlaceWords, count as countIn, head_at, mark_of as markIn, to_head, remove}
use Rattle.places.specs.Whole.{Whole, lists, PlacesKept, Changes}
use Rattle.places.proofs.laws.Whole as place_laws
use Rattle.wheel.specs.Wheel.{Lists, arrive}
use Rattle.wheel.specs.Occupied.{flags, Occupied}
use Rattle.wheel.specs.Words.{wheel_words}
use Rattle.wheel.specs.Limited.{yet, Limited, finds, stops, moves, empties}
use Rattle.wheel.specs.Midway.{Comes}
use Rattle.wheel.proofs.laws.Next.{list_height}
use Rattle.wheel.proofs.laws.Midway.{midway_exactly as midway-lists}
use Rattle.records.specs.View.{with_elapsed, with_lists, with_hand}
use Rattle.records.specs.Words.{QueueWords, queue_words, count, elapsed, view, MidPoll, Sound, PastKept}
use Rattle.records.proofs.laws.View.{view_eq}
use Rattle.queue.specs.declared.Answer.TheVariants as A
use Rattle.queue.specs.Steps.{TakesSome, polled_some, not_yet}
use Rattle.delay_queue.specs.Claims.{PollSomeClaim}
use Rattle.pausing.proofs.laws.Pausing.{some_on}
use Rattle.promises.specs.Midway.{ComesFrom}
use Rattle.records.proofs.laws.Words.{past_refl}
use Rattle.promises.proofs.laws.Once.{past_from}
use Rattle.promises.proofs.laws.Masked.{arrive_from}

-- ---- the words with one record at the head of a list

-- a loose record comes to the head of the list of p, whichever place p is
to_head_lem : {t : PlaceWords} → Whole t → (p i : ℕ) → p < places → i < countIn t → markIn t i ≡ nobody → Changes t p (i ∷ lists t p) (to_head t p i)
unfolding lists
to_head_lem {t} W p i hp hi lo =
    place_laws.changed W p i (place_laws.still W i p (links_laws.joined_marks t.links p i (head_at t p)) (omega (arith, lo)))
    (links_laws.join_law W.held p i hp hi lo (upd_head t.heads W.shape t.tops p i hp))

-- ---- the words before a poll

-- words with the lists L, that t has come from: as many records, the words past them, who is retired, and who is in no list
record Undone (t : PlaceWords) (L : Lists) : Type 0 where
  words : PlaceWords
  whole : Whole words
  is : lists words ≡ L
  kept : PlacesKept t words
  loose : (i : ℕ) → i < countIn t → places ≤ markIn words i → places ≤ markIn t i

-- one move back: x was the head of p, and is the last of its slot one level down
move_back : {t : PlaceWords} {p x : ℕ} (w : ℕ) {l : List ℕ} {L : Lists} → p < expired → L p ≡ x ∷ l
    → Undone t (arrive (level_at p - 1) w x (change L p l)) → Undone t L
unfolding arrive
move_back {t} {p} {x} w {l} {L} hp is U =
    let k = level_at p - 1 in
    let q = slot_place k (slot_of w k) in
    let J = change L p l in
    let u = U.words in
    let hq : q < slots = omega (arith, slot_lt w k) in
    let end : lists u q ≡ J q ++ x ∷ [] = ap (λ (M : Lists). M q) U.is ∙ change_same J q (put q x (J q)) ∙ put_tail q x (J q) (omega (arith, hq)) in
    let m : Mem x (lists u q) = subst (Mem x) (sym end) (mem_right x (J q) (x ∷ []) (inl refl)) in
    let mark : markIn u x ≡ q = place_laws.member_mark U.whole q x m in
    let hx : x < countIn u = place_laws.member_below U.whole q x m in
    let R : Changes u q (without x (lists u q)) (remove u x)
    = subst (λ (j : ℕ). Changes u j (without x (lists u j)) (remove u x)) mark (place_laws.remove_law U.whole x hx (omega (arith, mark, hq))) in
    let apart = nodup_apart (J q) (x ∷ []) (subst Nodup end (place_laws.list_nodup U.whole q)) x in
    let out : without x (lists u q) ≡ J q
    = ap (without x) end ∙ without_split x (J q) [] (λ i. apart i (inl refl)) ∙ append-nil (J q) in
    let v = remove u x in
    let left : lists v ≡ J
    = R.lists ∙ fun_ext (λ j.
    by_cases (ℕ_discrete j q)
    (λ (e : j ≡ q). rw e (change_same (lists u) q (without x (lists u q)) ∙ out))
    (λ d. change_other (lists u) q (without x (lists u q)) j d ∙ ap (λ (M : Lists). M j) U.is ∙ change_other J q (put q x (J q)) j d)) in
    let T = to_head_lem R.whole p x (omega (arith, hp)) (rw R.kept.size hx) (place_laws.remove_mark U.whole x hx).0 in
    let back : lists (to_head v p x) ≡ L
    = T.lists ∙ fun_ext (λ j.
    by_cases (ℕ_discrete j p)
    (λ (e : j ≡ p). rw e (change_same (lists v) p (x ∷ lists v p) ∙ ap (λ (M : Lists). x ∷ M p) left ∙ ap (λ (z : List ℕ). x ∷ z) (change_same L p l) ∙ sym is))
    (λ d. change_other (lists v) p (x ∷ lists v p) j d ∙ ap (λ (M : Lists). M j) left ∙ change_other L p l j d)) in
    record {
      words = to_head v p x;
      whole = T.whole;
      is = back;
      kept = place_laws.kept_trans U.kept (place_laws.kept_trans R.kept T.kept);
      loose = λ i hi z. U.loose i hi
          (place_laws.unlisted_mark U.whole i (rw U.kept.size hi) (λ j m₁.
          let o = arrive_from k w p x L l is j i (subst (λ (M : Lists). Mem i (M j)) U.is m₁) in
          let o' : Mem i (lists (to_head v p x) o.0) = subst (λ (M : Lists). Mem i (M o.0)) (sym back) o.1 in
          omega (arith, z, place_laws.member_mark T.whole o.0 i o', place_laws.member_place T.whole o.0 i o')));
    }

-- all moves of a call back, from where it said "not yet"; the list in hand is a slot or the parking list
abbrev Listed : Option ℕ → Type 0
Listed none = Unit {0}
Listed (some p) = p < expired

undo : {d : ℕ → ℕ} {now b e p m n c : ℕ} {h : Option ℕ} {L N : Lists} {t : PlaceWords} → Listed h → Limited d now h b e L (yet p) m n c N → Whole t
    → lists t ≡ N → Undone t L
undo a (finds X h r) W e = undo (list_height X).1 r W e
undo {t = t} a (stops i) W e = record { words = t; whole = W; is = e; kept = place_laws.kept_refl t; loose = λ i hi z. z }
undo {d} a (moves {x = x} i r) W e = move_back (d x) a i (undo a r W e)
undo a (empties i r) W e = undo tt r W e

-- ---- the store that it comes from

-- the rows of any lists
occupied_for : Lists → List ℕ
occupied_for L =
    row_of (flags L 0) ∷ row_of (flags L 1) ∷ row_of (flags L 2) ∷ row_of (flags L 3) ∷ row_of (flags L 4) ∷ row_of (flags L 5) ∷ []

occupied_for_lem : (L : Lists) → Occupied (occupied_for L) L
unfolding occupied_for
occupied_for_lem L = record { six = refl; row = by }
  where
    by : (k : ℕ) → k < 6 → at (occupied_for L) k ≡ row_of (flags L k)
    by zero h = refl
    by (suc zero) h = refl
    by (suc (suc zero)) h = refl
    by (suc (suc (suc zero))) h = refl
    by (suc (suc (suc (suc zero)))) h = refl
    by (suc (suc (suc (suc (suc zero))))) h = refl
    by (suc (suc (suc (suc (suc (suc k)))))) h = absurd (omega (arith, h))

module _ {s : QueueWords} (S : Sound s) (D : MidPoll s) where
  comes : Comes (view s).deadline s.until (yet s.hand) (elapsed s) (view s).lists
  comes = (midway-lists (view s).deadline s.until s.hand (elapsed s) (view s).lists).0 (S.rule.inside D)

  undone : Undone s.wheel.places comes.lists
  undone = undo tt comes.polls S.standing.whole.places refl

  -- the same values, deadlines and turns, at rest
  before : QueueWords
  before = queue_words (wheel_words comes.from (occupied_for comes.lists) undone.words) s.values s.deadlines s.turns nobody 0

  before_size : count before ≡ count s
  unfolding before
  before_size = undone.kept.size

  before_sound : Sound before
  unfolding before
  before_sound =
      let T = S.standing in
      let n = before_size in
      record {
        standing = record {
          fits = omega (arith, n, undone.kept.links.nexts.size, undone.kept.links.prevs.size, undone.kept.links.marks.size, T.fits);
          whole = record { places = undone.whole; occupied = rw undone.is (occupied_for_lem comes.lists) };
          turns = λ i h. T.turns i (rw (← n) h);
          retired = λ i h d z.
              let r = T.retired i (rw (← n) h) d (undone.loose i (rw (← n) h) z) in (undone.kept.retired i r.0, r.1);
        };
        rule = record { free = λ _. rw undone.is comes.rule; inside = λ d. absurd (d refl) };
        no_now = λ _. refl;
      }

  before_kept : PastKept (count before) before s
  unfolding before
  before_kept =
      let n = count s in
      let K : PastKept n s before = record {
        links = undone.kept.links;
        values = links_laws.kept_refl _ s.values;
        deadlines = links_laws.kept_refl n s.deadlines;
        turns = links_laws.kept_refl n s.turns;
      } in
      rw before_size (past_from K (past_refl n s))

  before_takes : TakesSome (view before) s.until comes.limit (yet s.hand) comes.moves comes.drains (view s)
  unfolding before
  before_takes =
      let v = view before in
      let same : with_hand s.hand s.until (with_elapsed (elapsed s) (with_lists (view s).lists v)) ≡ view s
      = view_eq before_size refl refl refl refl refl refl in
      subst (TakesSome v s.until comes.limit (yet s.hand) comes.moves comes.drains) same
      (polled_some (ap (λ (L : Lists). L expired) undone.is ∙ comes.expired) (rw undone.is comes.polls))

  before_polls : PollSomeClaim before s.until comes.limit (A.NotYet comes.moves comes.drains) s
  unfolding before
  before_polls =
      record {
        bad = λ f. absurd (f before_sound);
        good = λ _. record {
          other = λ d. absurd (d refl);
          same = λ d. absurd (d refl);
          free = λ _. record {
            back = λ h. absurd (omega (arith, h, comes.due));
            done = λ _. (S, not_yet before_takes, before_kept);
          };
        };
      }

  comes_from : ComesFrom s
  unfolding before
  comes_from =
      record {
        from = before;
        sound = before_sound;
        at_rest = refl;
        expired = ap (λ (L : Lists). L expired) undone.is ∙ comes.expired;
        due = comes.due;
        limit = comes.limit;
        answer = A.NotYet comes.moves comes.drains;
        not_yet = (comes.moves, comes.drains, refl);
        polls = before_polls;
      }

-- "Soundness allows exactly the states that the rules of the poll in hand pass through, before, inside or between drains": a store with a poll in hand is sound
-- exactly if a limited poll of some sound store at rest answers "not yet" and leaves it, word for word
pub midway_exactly : {s : QueueWords} → MidPoll s → Sound s ↔ ComesFrom s
midway_exactly {s} D = (
  λ S. comes_from S D,
  λ C. (some_on C.sound (record { same = λ d. absurd (d C.at_rest); later = λ _. C.due }) C.polls).0,
)
