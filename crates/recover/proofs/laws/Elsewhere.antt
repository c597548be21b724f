-- The journal of a run is the journal of a run in other slices too, if they are long enough for every format that is written: the stores differ in no word that
-- their N records have. So what is replayed elsewhere is what was.
use mathlib.Core.Path.{◌≡◌, refl, sym, ap, ◌∙◌, subst, subst₂}
use mathlib.Core.Logic.{by_cases}
use mathlib.Core.Bool.{Bool, false, false≢true}
use mathlib.Core.List.{List, [], ◌∷◌, ◌++◌}
use Prim.Native.Nat.{ℕ, ◌+◌}
use native.Mathlib.Omega.{arith}
use lib.ListN.{length, take}
use Rattle.queue.specs.declared.Answer.{Answer}
use Rattle.queue.specs.Told.{told}
use Rattle.records.specs.Slices.{Slices, Fits}
use Rattle.records.specs.Words.{QueueWords, slices}
use Rattle.delay_queue.specs.declared.Call.{Call}
use Rattle.delay_queue.specs.declared.Call.TheVariants as C
use Rattle.delay_queue.specs.Claims.{CallClaim}
use Rattle.promises.specs.Alike.{Matched, SameRoom}
use Rattle.promises.proofs.laws.OneCall.{call_met, past_kept}
use Rattle.promises.proofs.laws.Decided.{fits_dec}
use Rattle.promises.proofs.laws.Alike.{call_matched, fits_kept}
use Rattle.entries.specs.declared.Step.{Step}
use Rattle.entries.specs.declared.Step.TheVariants as S
use Rattle.entries.specs.declared.Ending.TheVariants as E
use Rattle.entries.proofs.laws.Writing.{entry_length}
use Rattle.journal.specs.Journal.{Acts, asks, opened, open_twice, closed, not_open, unwritten, written, Noted, Journals}
use Rattle.journal.specs.Journal as J
use Rattle.journal.proofs.laws.Once.{no_unwritten, one}
use Rattle.recover.specs.Replay.{found, ReplayClaim}
use Rattle.recover.specs.Cut.{NoClose, Unclosed, none_open, not_closed, CutOf, RoomFor, Keeps, none, kept, left_out}
use Rattle.recover.proofs.laws.Cut.{Writes, writes, bytes, cut_kept}
use Rattle.recover.proofs.laws.Cut as cut
use Rattle.recover.proofs.laws.AnyCut.{any_cut}

-- ---- the steps that are written

keeps_no_close : {l m : List Noted} → Keeps l m → NoClose l → NoClose m
keeps_no_close none n = tt
keeps_no_close (kept K) n = (n.0, keeps_no_close K n.1)
keeps_no_close (left_out w K) n = keeps_no_close K n.1

-- an open where no patch is open is written
opens_written : {q : Bool} {s t : QueueWords} {a : Answer} → Acts false s S.Open a q t → written S.Open (told a) ≡ [] → ⊥
unfolding written
opens_written (opened f) w = omega (arith, entry_length 7 0 0, ap (λ (m : List ℕ). length m) (sym (ap (λ t. written S.Open t) f) ∙ w))

keeps_unclosed : {l m : List Noted} {q : Bool} {s t : QueueWords} {J : List ℕ} → Keeps l m → Journals false s l J q t → Unclosed l → Unclosed m
keeps_unclosed none R none_open = none_open
keeps_unclosed (kept K) R (not_closed e n) = not_closed e (keeps_no_close K n)
keeps_unclosed (left_out {x} w K) (J.next {p₁ = p₁} {s = s} {s₁} f A R) (not_closed e n) =
    absurd
    (opens_written (subst (λ (y : Step). Acts false s y x.answer p₁ s₁) e A)
    (ap (λ (y : Step). written y (told x.answer)) (sym e) ∙ w))

-- ---- one step elsewhere

-- a call that is written: a format has room in both
call_elsewhere : (c : Call) (s s₁ u : QueueWords) (a : Answer) → CallClaim c s a s₁ → Matched s u → SameRoom c s u
    → (u₁ : QueueWords) × CallClaim c u a u₁ × Matched s₁ u₁
call_elsewhere c s s₁ u a A M room =
    let m = call_met c u in
    let o = call_matched c s u s₁ m.1 a m.0 M room A m.2 in
    (m.1, subst (λ b. CallClaim c u b m.1) (sym o.0) m.2, o.1)

-- a format that is written found room
same_room : (c : Call) (s s₁ u : QueueWords) (a : Answer) → CallClaim c s a s₁ → unwritten (told a) ≡ false
    → ((n turn : ℕ) → c ≡ C.Format n turn → Fits (slices u) n)
    → SameRoom c s u
same_room (C.Format n turn) s s₁ u a A w room e = (
  (λ F. room n turn refl),
  λ F. by_cases (fits_dec s n) (λ G. G) (λ f. absurd (false≢true (sym w ∙ no_unwritten (A.short f).told one))),
)
same_room (C.Insert value when period) s s₁ u a A w room e = absurd (false≢true e)
same_room (C.Reset key when) s s₁ u a A w room e = absurd (false≢true e)
same_room (C.Remove key) s s₁ u a A w room e = absurd (false≢true e)
same_room (C.Poll now) s s₁ u a A w room e = absurd (false≢true e)
same_room (C.PollSome now limit) s s₁ u a A w room e = absurd (false≢true e)
same_room C.Wake s s₁ u a A w room e = absurd (false≢true e)
same_room C.Length s s₁ u a A w room e = absurd (false≢true e)
same_room C.Clear s s₁ u a A w room e = absurd (false≢true e)

-- what a step leaves in other slices
pub record LeavesElsewhere (p q : Bool) (x : Step) (a : Answer) (s₁ u : QueueWords) : Type 0 where
  pub store : QueueWords
  pub acts : Acts p u x a q store
  pub matched : Matched s₁ store
  pub room : (n : ℕ) → Fits (slices u) n → Fits (slices store) n

step_elsewhere : {p q : Bool} {x : Step} {a : Answer} {s s₁ u : QueueWords} → Acts p s x a q s₁ → Matched s u → unwritten (told a) ≡ false
    → ((n turn : ℕ) → x ≡ S.Asks (C.Format n turn) → Fits (slices u) n)
    → LeavesElsewhere p q x a s₁ u
step_elsewhere {a = a} {s} {s₁} {u} (asks {c = c} A) M w room =
    let o = call_elsewhere c s s₁ u a A M (same_room c s s₁ u a A w (λ n turn e. room n turn (ap S.Asks e))) in
    record { store = o.0; acts = asks o.1; matched = o.2; room = λ n F. (fits_kept (past_kept c u a o.0 o.1)).0 F }
step_elsewhere {u = u} (opened f) M w room = record { store = u; acts = opened f; matched = M; room = λ n F. F }
step_elsewhere {u = u} (open_twice f) M w room = record { store = u; acts = open_twice f; matched = M; room = λ n F. F }
step_elsewhere {u = u} (closed f) M w room = record { store = u; acts = closed f; matched = M; room = λ n F. F }
step_elsewhere {u = u} (not_open f) M w room = record { store = u; acts = not_open f; matched = M; room = λ n F. F }

-- ---- runs

room_less : {z y : Slices} → ((n : ℕ) → Fits z n → Fits y n) → (l : List Noted) → RoomFor z l → RoomFor y l
room_less h [] r = tt
room_less h (x ∷ l) r = ((λ n turn e w. h n (r.0 n turn e w)), room_less h l r.1)

room_front : (z : Slices) (l m : List Noted) → RoomFor z (l ++ m) → RoomFor z l
room_front z [] m r = tt
room_front z (x ∷ l) m r = (r.0, room_front z l m r.1)

room_back : (z : Slices) (l m : List Noted) → RoomFor z (l ++ m) → RoomFor z m
room_back z [] m r = r
room_back z (x ∷ l) m r = room_back z l m r.1

-- what a run leaves in other slices
pub record Elsewhere (p q : Bool) (l : List Noted) (K : List ℕ) (t u : QueueWords) : Type 0 where
  pub steps : List Noted
  pub keeps : Keeps l steps
  pub store : QueueWords
  pub runs : Journals p u steps K q store
  pub matched : Matched t store
  pub room : (n : ℕ) → Fits (slices u) n → Fits (slices store) n

pub elsewhere : {p q : Bool} {s t u : QueueWords} {l : List Noted} {K : List ℕ} → Journals p s l K q t → Matched s u → RoomFor (slices u) l
    → Elsewhere p q l K t u
elsewhere {u = u} J.rest M r = record { steps = []; keeps = none; store = u; runs = J.rest; matched = M; room = λ n F. F }
elsewhere {p} {q} {s} {t} {u} (J.next {p₁ = p₁} {s₁ = s₁} {x = x} {l} {J = K} f A R) M r =
    by (writes A) (λ v N h. elsewhere R N (room_less h l r.1))
  where
    W : List ℕ
    W = written x.step (told x.answer)

    by : Writes A → ((v : QueueWords) → Matched s₁ v → ((n : ℕ) → Fits (slices u) n → Fits (slices v) n) → Elsewhere p₁ q l K t v)
        → Elsewhere p q (x ∷ l) (W ++ K) t u
    by (bytes w h e) rec =
        let G = step_elsewhere A M w (λ n turn g. r.0 n turn g w) in
        let E = rec G.store G.matched G.room in
        record {
          steps = x ∷ E.steps;
          keeps = kept E.keeps;
          store = E.store;
          runs = J.next f G.acts E.runs;
          matched = E.matched;
          room = λ n F. E.room n (G.room n F);
        }
    by (cut.none w e g) rec =
        let E = rec u (subst (λ (v : QueueWords). Matched v u) (sym g) M) (λ n F. F) in
        record {
          steps = E.steps;
          keeps = left_out w E.keeps;
          store = E.store;
          runs = subst₂ (λ (b : Bool) (m : List ℕ). Journals b u E.steps (m ++ K) q E.store) e (sym w) E.runs;
          matched = E.matched;
          room = E.room;
        }

-- ---- the promise

-- the journal of a run is cut anywhere and replayed from no store in other slices: what is found is what was, but for words past N
pub past_unread : {s t u : QueueWords} {q : Bool} {run : List Noted} {K : List ℕ} → Journals false s run K q t → Matched s u → RoomFor (slices u) run → (k : ℕ)
    → (C : CutOf s run (take k K)) × (v : QueueWords) × Matched C.store v
    × ReplayClaim (take k K) u (found (length C.journal) (length C.journal + length C.lost_bytes) E.Cut v)
past_unread {s} {u = u} {run = run} {K} R M room k =
    let C = any_cut R k in
    let all = subst (λ (l : List Noted). RoomFor (slices u) l) C.whole room in
    let A = elsewhere C.keeps M (room_front (slices u) C.calls (C.lost ++ C.others) all) in
    let behind = room_back (slices u) C.calls (C.lost ++ C.others) all in
    let B = elsewhere C.loses A.matched (room_less A.room C.lost (room_front (slices u) C.lost C.others behind)) in
    let D = cut_kept A.runs B.runs (keeps_unclosed B.keeps C.loses C.unclosed) C.is_part in (
      C,
      A.store,
      A.matched,
      subst (λ (l : List ℕ). ReplayClaim l u (found (length C.journal) (length C.journal + length C.lost_bytes) E.Cut A.store))
          (sym C.split) D,
    )
