-- Poll, next wake, length and clear: what the proofs of the functions cite.
use mathlib.Core.Path.{◌≡◌, refl, sym, ap, ◌∙◌, subst}
use mathlib.Core.Logic.{◌≢◌, ⊎_elim, by_cases}
use mathlib.Core.Bool.{Bool, true, false}
use mathlib.Core.List.{List, [], nil≢cons}
use mathlib.Core.Option.{Option}
use Prim.Native.Nat.{ℕ, suc, ◌+◌, ◌*◌, ◌^◌, ◌≤◌, ◌<◌}
use native.Mathlib.Decide.{ℕ_discrete, dec_lt}
use native.Mathlib.Omega.{arith}
use native.Mathlib.Numerals.{add-one}
use lib.ListN.{length}
use lib.Dec.{ltb}
use borrow.Author.Count.{below_more}
use borrow.Author.Tests.{eq-eqb, ne_eqb, lt-ltb, le-ltb}
use Rattle.links.specs.Lists.{nobody, Mem, without, change}
use Rattle.links.proofs.laws.Lists.{change_other}
use Rattle.links.specs.Links.{at}
use Rattle.links.proofs.laws.Count.{elem, cnt_ext, cnt_elem, mem_elem, elem_mem}
use Rattle.links.proofs.laws.Judge.{cat, mem_cat, cat_mem, cat_nodup}
use Rattle.places.specs.Places.{parking, expired, free}
use Rattle.places.proofs.laws.Whole as place_laws
use Rattle.wheel.specs.Limited.{Outcome, ended as stopped, yet, Limited}
use Rattle.wheel.specs.Midway.{Obeys}
use Rattle.wheel.proofs.laws.Sums.{mem_change, mem_left, total_zero, total_scale, hits}
use Rattle.wheel.proofs.laws.Between.{rule_less}
use Rattle.wheel.proofs.laws.Poll.{given}
use Rattle.wheel.proofs.laws.Passed.{given_by, Passed, polled_passed, passed_on}
use Rattle.std.specs.Prelude.{Option as Maybe, Some, None}
use Rattle.wheel.specs.Expiration.{WakeIs}
use Rattle.wheel.specs.Words.{WheelWords, wheel_words, Becomes, LooseIn, Pops, CanLeave, Leaves, lists as listsIn}
use Rattle.wheel.specs.Moves.{CanPoll, PollsTo, gotten, outcome}
use Rattle.wheel.proofs.laws.Moves.{popped_empty, popped_cons}
use Rattle.queue.specs.declared.Answer.{Answer}
use Rattle.queue.specs.declared.Answer.TheVariants as A
use Rattle.queue.specs.Told.{Told, told, out, wake, never}
use Rattle.queue.specs.Told as T
use Rattle.records.specs.View.{View, with_elapsed, with_lists, with_hand}
use Rattle.records.specs.Records.{last_turn, packed, At, NoMore, left, freed}
use Rattle.queue.specs.Steps.{TakesOut, popped, polled, GoesOn, once, again, ended, QueuePolls, handed, nothing}
use Rattle.queue.specs.Steps.{TakesSome, popped_some, polled_some, PollsSome, handed_some, nothing_some, not_yet, PollsRest, handed_rest, nothing_rest}
use Rattle.queue.specs.Steps.{sleeps, starts, NextWake, at_once, from_wheel, pending, Clears, begun, kept, gave}
use Rattle.records.specs.Slices.{value_at, period_at}
use Rattle.records.specs.Words.{QueueWords, queue_words, holding, count, elapsed, mark_of, view, Standing, SoundBut, AtRest, Sound, PastKept}
use Rattle.records.proofs.laws.Words.{past_refl, past_then}
use Rattle.queue.specs.Calls.{SomeOn, PollsOn, ClearOn}
use Rattle.records.specs.Inner.{StandsBut, GoesBut, Goes, LooseAt, CanPlace, PlacesTo, CanFree, LeavesTo}
use Rattle.records.proofs.laws.Inner.{with_rule, sounds, stands_hold, loose_out, StayBut, stay_all, stay_popped, stands_wheel, stands_lists, can_leave, mem_without, stands_left, stands_freed, goes_placed, goes_freed, left_size, placed_size, freed_size}
use Rattle.records.proofs.laws.Again.{again_near}
use Rattle.queue.proofs.laws.Calls.{stands_then}
use Rattle.queue.specs.Inner.{CanPollIdx, PollsIdx, of_expired, of_wheel, PollNo, HandsOut, Shows, pending_in, ClearsOne}

-- ---- a loose record is handed out, and freed or placed again

module _ {s : QueueWords} {i : ℕ} (S : SoundBut i s) (o : LooseAt s i) where
  pub out_words : (2 * i + 1 < length s.values) × (i < length s.deadlines) × (i < length s.turns) × (at s.turns i < 2 ^ 48)
  out_words = (
    omega arith,
    omega arith,
    omega arith,
    (S.standing.turns i o.below).1,
  )

  pub out_frees : CanFree s.wheel s.turns i
  out_frees = record { whole = S.standing.whole; item = o; word = out_words.2; turn = (S.standing.turns i o.below).1 }

  -- the next deadline, as a number
  abbrev next : ℕ
  next = at s.deadlines i + period_at s.values i

  pub out_places : {w : ℕ} → (w ≡ next) × (NoMore (elapsed s) next → ⊥) → CanPlace s.wheel s.deadlines i w
  out_places A = record { whole = S.standing.whole; item = o; word = out_words.1; near = rw A.0 (again_near A.1) }

  module _ (moves drains : ℕ) {k : ℕ} (e : k ≡ packed (at s.turns i) i) where
    hands_out : {a : Answer} {v : View} {s' : QueueWords} → GoesOn (view s) i moves drains (view s) (told a) v → Goes s v s'
        → HandsOut s i moves drains a s'
    hands_out G H = record { goes_on = rw H.view G; sound = H.sound; size = H.size; kept = H.kept }

    -- it has no period
    pub out_done : period_at s.values i ≡ 0 → {t : WheelWords} {ts : List ℕ} → LeavesTo s.wheel s.turns i t ts
        → HandsOut s i moves drains (A.Out k (value_at s.values i) (at s.deadlines i) moves drains)
        (queue_words t s.values s.deadlines ts s.hand s.until)
    out_done z P = hands_out (rw e (once z)) (goes_freed S o P)

    module _ (d : period_at s.values i ≢ 0) where
      -- it is set again
      pub out_again : {w : ℕ} → (w ≡ next) × (NoMore (elapsed s) next → ⊥) → {t : WheelWords} {ds : List ℕ}
          → PlacesTo s.wheel s.deadlines i w t ds
          → HandsOut s i moves drains (A.Out k (value_at s.values i) (at s.deadlines i) moves drains)
          (queue_words t s.values ds s.turns s.hand s.until)
      out_again {w} A P =
          hands_out (rw e (again (omega arith) A.1))
          (goes_placed S o next (again_near A.1) (rw A.0 at P))

      -- it is set no more
      pub out_last : NoMore (elapsed s) next → {t : WheelWords} {ts : List ℕ} → LeavesTo s.wheel s.turns i t ts
          → HandsOut s i moves drains (A.Last k (value_at s.values i) (at s.deadlines i) moves drains)
          (queue_words t s.values s.deadlines ts s.hand s.until)
      out_last f P = hands_out (rw e (ended (omega arith) f)) (goes_freed S o P)

-- ---- poll

-- another than i is not what was handed out
not_given : {i x : ℕ} → i ≢ x → given (hits x) (gotten i) ≡ 0
not_given {i} {x} d =
    by_cases (ℕ_discrete i nobody)
    (λ z. rw (eq-eqb i nobody z))
    (λ z. rw (ne_eqb i nobody z, ne_eqb i x d))

-- and so with a limit
none_given : {i x : ℕ} (to : ℕ) → i ≢ x → given_by (hits x) (outcome i to) ≡ 0
none_given {i} {x} to d =
    by_cases (ℕ_discrete to nobody)
    (λ z. rw (eq-eqb to nobody z) (not_given d))
    (λ z. rw (ne_eqb to nobody z))

-- who has left its list goes on by the words that it had
goes_on_from : {v u : View} {now limit a b r m n : ℕ} {got : Option ℕ} {x : Told} {w : View} → TakesSome v now limit (stopped got) a b u
    → GoesOn u r m n u x w → GoesOn v r m n u x w
goes_on_from (popped_some e) (once z) = once z
goes_on_from (popped_some e) (again p f) = again p f
goes_on_from (popped_some e) (ended p f) = ended p f
goes_on_from (polled_some e P) (once z) = once z
goes_on_from (polled_some e P) (again p f) = again p f
goes_on_from (polled_some e P) (ended p f) = ended p f

-- the expired stack is empty, and the wheel can be polled
pub wheel_can : {t u : WheelWords} {ds : List ℕ} {hand time first : ℕ} → CanPollIdx t ds hand time → Pops t expired first u → first ≡ nobody
    → CanPoll u ds hand time
wheel_can C Q z =
    let empty = popped_empty C.whole Q z in
    let B = (Q.none empty).1 in
    record {
      whole = B.whole;
      rule = rw (B.elapsed, B.lists) C.rule;
      expired = ap (λ L. L expired) B.lists ∙ empty;
      not_back = λ h. omega (arith, B.elapsed, C.not_back h);
      deadlines = omega (arith, B.kept.size, C.deadlines);
    }

-- ---- the number

module _ {e hand until time : ℕ} where
  pub no_other : hand ≢ nobody → time ≢ until → PollNo e hand until time 12
  no_other d n =
      record {
        other = λ _ _. refl;
        back = λ z. absurd (d z);
        same = λ z. absurd (omega arith);
        later = λ z. absurd (omega arith);
        held = λ _ z. absurd (n z);
        free = λ z. absurd (d z);
      }

  pub no_same : hand ≢ nobody → time ≡ until → PollNo e hand until time 0
  no_same d n =
      record {
        other = λ _ z. absurd (z n);
        back = λ z. absurd (d z);
        same = λ _ _. n;
        later = λ _ z. absurd (d z);
        held = λ _ _. refl;
        free = λ z. absurd (d z);
      }

  pub no_back : hand ≡ nobody → time < e → PollNo e hand until time 7
  no_back z h =
      record {
        other = λ d. absurd (d z);
        back = λ _ _. refl;
        same = λ q. absurd (omega arith);
        later = λ q. absurd (omega arith);
        held = λ d. absurd (d z);
        free = λ _ g. absurd (omega (arith, g, h));
      }

  pub no_none : hand ≡ nobody → e ≤ time → PollNo e hand until time 0
  no_none z h =
      record {
        other = λ d. absurd (d z);
        back = λ _ g. absurd (omega (arith, g, h));
        same = λ _ d. absurd (d z);
        later = λ _ _. h;
        held = λ d. absurd (d z);
        free = λ _ _. refl;
      }

-- ---- the poll

module _ {s : QueueWords} (S : Sound s) (time limit : ℕ) {no : ℕ} (N : PollNo (elapsed s) s.hand s.until time no) where
  pub poll_refused : no ≢ 0 → PollsOn s time limit (A.No no) s
  poll_refused d =
      record {
        other = λ h g. record { told = ap T.no (N.other h g); same = refl };
        same = λ h g. absurd (d (N.held h g));
        free = λ z. record { back = λ h. record { told = ap T.no (N.back z h); same = refl }; done = λ h. absurd (d (N.free z h)) };
      }

  module _ (ok : no ≡ 0) where
    rule_now : Obeys (view s).deadline time s.hand (view s).elapsed (view s).lists
    rule_now =
        record {
          free = S.rule.free;
          inside = λ d. rw (N.same ok d) (S.rule.inside d);
        }

    pub poll_can : CanPollIdx s.wheel s.deadlines s.hand time
    poll_can =
        record { whole = S.standing.whole; rule = rule_now; not_back = N.later ok; deadlines = S.standing.fits.room.deadlines }

    -- the store with the wheel t, and the drain of h in hand, of a poll at u
    abbrev polled_to : WheelWords → ℕ → ℕ → QueueWords
    polled_to t h u = queue_words t s.values s.deadlines s.turns h u

    -- it has ended, and i was taken from the wheel, if anybody
    abbrev Taken : ℕ → ℕ → ℕ → WheelWords → Type 0
    Taken i m n t =
        (v : View) × TakesSome (view s) time limit (stopped (gotten i)) m n v × GoesBut i s v (polled_to t nobody 0) × (i ≢ nobody → LooseIn t i)

    -- the expired stack has a first: so no poll is in hand
    taken_expired : {i : ℕ} {t : WheelWords} → Pops s.wheel expired i t → i ≢ nobody → Taken i 0 0 t
    taken_expired {i} {t} Q d =
        let (l, was) = popped_cons S.standing.whole Q d in
        let (same, loose, B) = Q.some i l was in
        let rest : AtRest s = by_cases (ℕ_discrete s.hand nobody) (λ z. z)
        (λ z. absurd (nil≢cons (sym (S.rule.inside z).expired ∙ was))) in
        let G : GoesBut i s (with_lists (change (view s).lists expired l) (view s)) (polled_to t s.hand s.until)
        = with_rule (stands_lists S.standing B (stay_popped (view s).lists expired i l was))
        (rule_less (S.rule.free rest) (mem_left (view s).lists expired i l was)) in
        let e : polled_to t s.hand s.until ≡ polled_to t nobody 0 = λ j. polled_to t (rest j) (S.no_now rest j) in (
          with_lists (change (view s).lists expired l) (view s),
          rw (ne_eqb i nobody d) (popped_some was),
          subst (GoesBut i s (with_lists (change (view s).lists expired l) (view s))) e G,
          λ d. loose,
        )

    -- it is empty
    module _ {first : ℕ} {u : WheelWords} (Q : Pops s.wheel expired first u) (absent : first ≡ nobody) where
      empty : (view s).lists expired ≡ []
      empty = popped_empty S.standing.whole Q absent

      B : Becomes s.wheel (view s).lists u
      B = (Q.none empty).1

      module _ {i to m n : ℕ} {t : WheelWords} (R : PollsTo (at s.deadlines) time limit s.hand u i to m n t) where
        polls : Limited (view s).deadline time (gotten s.hand) limit (view s).elapsed (view s).lists (outcome i to) m n t.elapsed (listsIn t)
        polls = rw (B.elapsed, B.lists) at R.polls

        passed : Passed (view s).lists (outcome i to) m (listsIn t)
        passed = rw B.lists at (polled_passed (wheel_can poll_can Q absent) R)

        -- only i has left the lists
        stays : StayBut i (view s).lists (listsIn t)
        stays p x k d =
            by_cases (dec_lt p expired)
            (λ h. let w = passed_on passed x (none_given to (λ z. d (sym z))) (p, h, k) in (w.0, w.2))
            (λ h. (p, rw (passed.aside p (omega arith)) k))

        stood : StandsBut i s (with_elapsed t.elapsed (with_lists (listsIn t) (view s))) (polled_to t s.hand s.until)
        stood = stands_wheel S.standing R.whole (place_laws.kept_trans B.kept R.kept) refl refl stays

        taken_wheel : to ≡ nobody → Taken i m n t
        taken_wheel z =
            let o : outcome i to ≡ stopped (gotten i) = rw (eq-eqb to nobody z) in (
              _,
              polled_some empty (rw o at polls),
              with_rule (stands_hold stood nobody 0) (R.rule.free z),
              R.loose,
            )

        -- it has not
        taken_yet : (d : to ≢ nobody) → SomeOn s time limit (A.NotYet m n) (polled_to t to time)
        taken_yet d =
            let o : outcome i to ≡ yet to = rw (ne_eqb to nobody d) in
            let T : TakesSome (view s) time limit (yet to) m n (with_hand to time (with_elapsed t.elapsed (with_lists (listsIn t) (view s))))
            = polled_some empty (rw o at polls) in
            let P = stands_hold (stands_wheel S.standing R.whole (place_laws.kept_trans B.kept R.kept) refl refl (stay_yet d)) to time in (
              record { standing = P.standing; rule = R.rule; no_now = λ z. absurd (d z) },
              rw P.view (not_yet T),
              P.kept,
            )
          where
            stay_yet : to ≢ nobody → StayBut nobody (view s).lists (listsIn t)
            stay_yet d p x k e =
                let o : outcome i to ≡ yet to = rw (ne_eqb to nobody d) in
                by_cases (dec_lt p expired)
                (λ h. let w = passed_on passed x (ap (given_by (hits x)) o) (p, h, k) in (w.0, w.2))
                (λ h. (p, rw (passed.aside p (omega arith)) k))

    taken : {i to m n : ℕ} {t : WheelWords} → PollsIdx (at s.deadlines) time limit s.hand s.wheel i to m n t → to ≡ nobody → Taken i m n t
    taken (of_expired Q d) z = taken_expired Q d
    taken (of_wheel Q e R) z = taken_wheel Q e R z

    -- what is owed, whether it began or went on
    ends : {a : Answer} {s' : QueueWords} → SomeOn s time limit a s' → PollsOn s time limit a s'
    ends x =
        record {
          other = λ d e. absurd (e (N.same ok d));
          same = λ _ _. x;
          free = λ z. record { back = λ h. absurd (omega (arith, h, N.later ok z)); done = λ _. x };
        }

    module _ {i to m n : ℕ} {t : WheelWords} (P : PollsIdx (at s.deadlines) time limit s.hand s.wheel i to m n t) where
      pub poll_yet : to ≢ nobody → PollsOn s time limit (A.NotYet m n) (polled_to t to time)
      poll_yet d = ends (by P d)
        where
          by : {i to m n : ℕ} {t : WheelWords} → PollsIdx (at s.deadlines) time limit s.hand s.wheel i to m n t → to ≢ nobody
              → SomeOn s time limit (A.NotYet m n) (polled_to t to time)
          by (of_expired Q e) d = absurd (d refl)
          by (of_wheel Q e R) d = taken_yet Q e R d

      module _ (z : to ≡ nobody) where
        pub poll_none : i ≡ nobody → PollsOn s time limit (A.Nothing m n) (polled_to t nobody 0)
        poll_none w =
            let (v, T, G, o) = taken P z in
            ends (sounds (rw w at G.sound) refl refl, rw G.view (nothing_some (rw (eq-eqb i nobody w) at T)), G.kept)

        pub poll_loose : i ≢ nobody → SoundBut i (polled_to t nobody 0) × LooseAt (polled_to t nobody 0) i
        poll_loose d = let (v, T, G, o) = taken P z in (G.sound, o d)

        pub poll_handed : i ≢ nobody → {a : Answer} {s' : QueueWords} → AtRest s' → s'.until ≡ 0 → HandsOut (polled_to t nobody 0) i m n a s'
            → PollsOn s time limit a s'
        poll_handed d {a} {s'} rest u H =
            let (v, T, G, o) = taken P z in
            ends (
              sounds H.sound rest u,
              handed_some (rw (ne_eqb i nobody d) at T)
                  (goes_on_from T (subst (λ z. GoesOn z i m n z (told a) (view s')) G.view H.goes_on)),
              past_then G.size G.kept H.kept,
            )

-- ---- next wake

module _ {e h g : ℕ} {occ ds : List ℕ} (v : View) (S : Shows e occ ds h g v) where
  -- a timer has expired
  pub wake_now : h ≢ nobody → NextWake v (wake e)
  wake_now d = rw (← S.elapsed) (at_once (S.first d).1)

  -- none has, and the wheel answers
  module _ (z : h ≡ nobody) {r : Maybe ℕ} (W : WakeIs e v.lists r) where
    pub wake_never : r ≡ None → NextWake v never
    wake_never q = from_wheel (S.empty z) (sleeps (rw q at W))

    pub wake_at : {t : ℕ} → r ≡ Some t → NextWake v (wake t)
    wake_at {t} q =
        let x = rw (q, ← S.elapsed) at W in
        from_wheel (S.empty z) (starts x.2)

-- ---- length

pub pending_zero : (mk : ℕ → ℕ) → pending_in mk 0 ≡ 0
unfolding pending_in
pending_zero mk = refl

pub pending_more : (mk : ℕ → ℕ) (i : ℕ) → ltb (mk i) free ≡ true → pending_in mk (i + 1) ≡ pending_in mk i + 1
unfolding pending_in
pending_more mk i h = rw (add-one, h)

pub pending_same : (mk : ℕ → ℕ) (i : ℕ) → ltb (mk i) free ≡ false → pending_in mk (i + 1) ≡ pending_in mk i
unfolding pending_in
pending_same mk i h = rw (add-one, h) (omega arith)

-- they are as many as the lists have members
pub pending_is : {s : QueueWords} → Sound s → pending_in (mark_of s) (count s) ≡ pending (view s)
unfolding pending_in pending
pending_is {s} S =
    let L = (view s).lists in
    let W = S.standing.whole.places in
    let c = cat L free 0 in
    let below : (i : ℕ) → Mem i c → i < count s = λ i m. let r = mem_cat L free 0 i m in place_laws.member_below W r.0 i r.3 in
    let same : (i : ℕ) → i < count s → ltb (mark_of s i) free ≡ elem i c
    = λ i h.
    by_cases (dec_lt (mark_of s i) free)
    (λ g.
    lt-ltb (mark_of s i) free g
    ∙ sym (mem_elem i c (cat_mem L free 0 (mark_of s i) i (omega arith) (omega arith) (place_laws.marked_member W i h (omega arith)))))
    (λ g.
    le-ltb (mark_of s i) free (omega (arith, g))
    ∙ sym (not_in (elem i c) (λ e.
    let r = mem_cat L free 0 i (elem_mem i c e) in
    g (omega (arith, place_laws.member_mark W r.0 i r.3))))) in
    cnt_ext (λ i. ltb (mark_of s i) free) (λ i. elem i c) (count s) same
    ∙ cnt_elem c (count s) (cat_nodup L (mark_of s) free 0 (λ q. place_laws.list_nodup W q) (λ q i m. place_laws.member_mark W q i m)) below
    ∙ sym (omega (arith, total_scale 1 free L 0 free (omega arith), total_zero (λ p x. 1) L))
  where
    not_in : (b : Bool) → (b ≡ true → ⊥) → b ≡ false
    not_in true h = absurd (h refl)
    not_in false h = refl

-- ---- clear

at_mark : {s : QueueWords} → Standing s → {i : ℕ} → i < count s → mark_of s i < free → At (view s) i (mark_of s i)
at_mark S {i} h g = record { timed = g; member = place_laws.marked_member S.whole.places i h (omega arith) }

-- in a slot or on the expired stack after it, and so before it
freed_at : (i : ℕ) (v : View) (j p : ℕ) → At (freed i v) j p → At v j p
unfolding freed
freed_at i v j p a =
    by_cases (ℕ_discrete (v.turn i) last_turn)
    (λ z. rw (eq-eqb (v.turn i) last_turn z) at a)
    (λ z.
    let b = rw (ne_eqb (v.turn i) last_turn z) at a in
    record { timed = b.timed; member = rw (change_other v.lists free _ p (omega arith)) at b.member })

pub left_less : (p i : ℕ) (v : View) (q x : ℕ) → Mem x ((left p i v).lists q) → Mem x (v.lists q)
unfolding left
left_less p i v q x m = ⊎_elim (λ a. rw a.0 (mem_without i x (v.lists p) a.1))
    (λ a. a.1) (mem_change v.lists p (without i (v.lists p)) q x m)

module _ {s : QueueWords} (S : Standing s) {i : ℕ} (h : i < count s) where
  pub clear_stays : free ≤ mark_of s i → ClearsOne s i s
  clear_stays g =
      let out : (p : ℕ) → At (view s) i p → ⊥ = λ p a. omega (arith, place_laws.member_mark S.whole.places p i a.member) in
      record {
        stays = λ f. refl;
        goes = λ p a. absurd (out p a);
        gone = out;
        others = λ j p a. a;
        standing = S;
        size = refl;
        kept = past_refl (count s) s;
      }

  module _ (g : mark_of s i < free) where
    pub clear_leaves : CanLeave s.wheel i
    clear_leaves = can_leave S (at_mark S h g)

    module _ {t : WheelWords} (Q : Leaves s.wheel i t) where
      abbrev s₃ : QueueWords
      s₃ = queue_words t s.values s.deadlines s.turns s.hand s.until

      G₄ : StandsBut i s (left (mark_of s i) i (view s)) s₃
      G₄ = stands_left S (at_mark S h g) Q

      pub clear_frees : CanFree t s.turns i
      clear_frees = record { whole = G₄.standing.whole; item = Q.item; word = omega arith; turn = (S.turns i h).1 }

      pub clear_goes : {u : WheelWords} {ts : List ℕ} → LeavesTo t s.turns i u ts
          → ClearsOne s i (queue_words u s.values s.deadlines ts s.hand s.until)
      clear_goes {u} {ts} P =
          let H = stands_freed G₄.standing Q.item P in
          let G = stands_then (freed i) G₄ H in
          let before : (j p : ℕ) → At (view (queue_words u s.values s.deadlines ts s.hand s.until)) j p → At (view s₃) j p
          = λ j p a. freed_at i (view s₃) j p (rw H.view at a) in
          record {
            stays = λ f. absurd (f (mark_of s i) (at_mark S h g));
            goes = λ p a. let e : mark_of s i ≡ p = place_laws.member_mark S.whole.places p i a.member in rw (← e) G;
            gone = λ p a. loose_out G₄.standing Q.item p (before i p a).member;
            others = λ j p a.
                let b = rw G₄.view at (before j p a) in
                record { timed = b.timed; member = left_less (mark_of s i) i (view s) p j b.member };
            standing = G.standing;
            size = G.size;
            kept = G.kept;
          }

-- the first i records are done
pub record ClearedSo (s : QueueWords) (i : ℕ) (s' : QueueWords) : Type 0 where
  pub standing : Standing s'
  pub size : count s' ≡ count s
  pub kept : PastKept (count s) s s'
  pub clears : Clears (view s) i (view s')
  pub gone : (j : ℕ) → j < i → (p : ℕ) → At (view s') j p → ⊥

pub clear_none : {s : QueueWords} → Standing s → ClearedSo s 0 s
clear_none {s} S = record { standing = S; size = refl; kept = past_refl (count s) s; clears = begun; gone = λ j h. absurd (omega arith) }

pub clear_step : {s s₁ s₂ : QueueWords} {i : ℕ} → ClearedSo s i s₁ → i < count s₁ → ClearsOne s₁ i s₂ → ClearedSo s (i + 1) s₂
clear_step {s} {s₁} {s₂} {i} C h Q =
    record {
      standing = Q.standing;
      size = Q.size ∙ C.size;
      kept = past_then C.size C.kept Q.kept;
      clears = rw (add-one i) (by (dec_lt (mark_of s₁ i) free));
      gone = below_more _ i (λ j g p a. C.gone j g p (Q.others j p a)) Q.gone;
    }
  where
    by : Dec (mark_of s₁ i < free) → Clears (view s) (suc i) (view s₂)
    by (yes g) = let a = at_mark C.standing h g in rw (Q.goes (mark_of s₁ i) a).view (gave C.clears a)
    by (no g) =
        let out : (p : ℕ) → At (view s₁) i p → ⊥ = λ p a. g
        (omega (arith, place_laws.member_mark C.standing.whole.places p i a.member)) in
        rw (Q.stays out) (kept C.clears out)

-- freeing and unlinking do not ask for the poll in hand
freed_hold : (k h u : ℕ) (v : View) → freed k (with_hand h u v) ≡ with_hand h u (freed k v)
unfolding freed
freed_hold k h u v =
    by_cases (ℕ_discrete (v.turn k) last_turn)
    (λ z. rw (eq-eqb (v.turn k) last_turn z))
    (λ z. rw (ne_eqb (v.turn k) last_turn z))

left_hold : (p k h u : ℕ) (v : View) → left p k (with_hand h u v) ≡ with_hand h u (left p k v)
unfolding left
left_hold p k h u v = refl

clears_hold : {v : View} {k : ℕ} {w : View} → Clears v k w → (h u : ℕ) → Clears (with_hand h u v) k (with_hand h u w)
clears_hold begun h u = begun
clears_hold (kept r n) h u = kept (clears_hold r h u) (λ p a. n p (record { timed = a.timed; member = a.member }))
clears_hold {v} (gave {k} {p} {u = w} r a) h u =
    subst (Clears (with_hand h u v) (suc k)) (ap (freed k) (left_hold p k h u w) ∙ freed_hold k h u (left p k w))
    (gave (clears_hold r h u) (record { timed = a.timed; member = a.member }))

-- nobody is pending, elapsed is 0, and no poll is in hand
pub clear_done : {s s₁ : QueueWords} {i : ℕ} → ClearedSo s i s₁ → i ≡ count s → (h u : ℕ)
    → ClearOn (holding h u s) A.Done
    (queue_words (wheel_words 0 s₁.wheel.occupied s₁.wheel.places) s₁.values s₁.deadlines s₁.turns nobody 0)
clear_done {s} {s₁} {i} C e h u =
    let S = C.standing in
    let out : (p x : ℕ) → p < free → Mem x ((view s₁).lists p) → ⊥
    = λ p x h m. C.gone x (omega (arith, place_laws.member_below S.whole.places p x m)) p (record { timed = h; member = m }) in
    let G : Goes s₁ (with_hand nobody 0 (with_elapsed 0 (view s₁)))
    (queue_words (wheel_words 0 s₁.wheel.occupied s₁.wheel.places) s₁.values s₁.deadlines s₁.turns nobody 0)
    = with_rule
    (stands_hold (stands_wheel S (record { places = S.whole.places; occupied = S.whole.occupied }) (place_laws.kept_refl s₁.wheel.places) refl refl
    (stay_all nobody (view s₁).lists)) nobody 0)
    (record {
      wheel = λ p x h m. absurd (out p x (omega arith) m);
      parked = λ x m. absurd (out parking x (omega arith) m);
      expired = λ x m. absurd (out expired x (omega arith) m);
    }) in
    let K = past_then C.size C.kept G.kept in
    record {
      cleared = with_hand h u (view s₁);
      clears = clears_hold (subst (λ k. Clears (view s) k (view s₁)) e C.clears) h u;
      done = record {
        told = refl;
        sound = sounds G.sound refl refl;
        view = G.view;
        kept = record { links = K.links; values = K.values; deadlines = K.deadlines; turns = K.turns };
      };
    }

-- ---- there are as many records as before

takes_size : {v : View} {now : ℕ} {got : Option ℕ} {m n : ℕ} {u : View} → TakesOut v now got m n u → u.n ≡ v.n
takes_size (popped e) = refl
takes_size (polled e P) = refl

goes_on_size : {v : View} {r m n : ℕ} {u : View} {x : Told} {w : View} → GoesOn v r m n u x w → w.n ≡ u.n
goes_on_size {r = r} {u = u} (once z) = freed_size r u
goes_on_size {r = r} {u = u} (again p f) = placed_size r _ u
goes_on_size {r = r} {u = u} (ended p f) = freed_size r u

pub polls_size : {v : View} {now : ℕ} {x : Told} {u : View} → QueuePolls v now x u → u.n ≡ v.n
polls_size (handed T G) = goes_on_size G ∙ takes_size T
polls_size (nothing T) = takes_size T

takes_some_size : {v : View} {now limit : ℕ} {o : Outcome} {m n : ℕ} {u : View} → TakesSome v now limit o m n u → u.n ≡ v.n
takes_some_size (popped_some e) = refl
takes_some_size (polled_some {o = stopped got} e P) = refl
takes_some_size (polled_some {o = yet p} e P) = refl

pub some_size : {v : View} {now limit : ℕ} {x : Told} {u : View} → PollsSome v now limit x u → u.n ≡ v.n
some_size (handed_some T G) = goes_on_size G ∙ takes_some_size T
some_size (nothing_some T) = takes_some_size T
some_size (not_yet T) = takes_some_size T

pub rest_size : {v : View} {now : ℕ} {x : Told} {u : View} → PollsRest v now x u → u.n ≡ v.n
rest_size (handed_rest T G) = goes_on_size G ∙ takes_some_size T
rest_size (nothing_rest T) = takes_some_size T

pub clears_size : {v : View} {k : ℕ} {u : View} → Clears v k u → u.n ≡ v.n
clears_size begun = refl
clears_size (kept r n) = clears_size r
clears_size (gave {k} {p} {u} r a) = freed_size k (left p k u) ∙ left_size p k u ∙ clears_size r
