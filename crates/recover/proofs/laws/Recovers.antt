-- Whatever the bytes, what replay keeps of them is the journal of a run that ends with no patch open and leads to the store that it leaves; so writing goes on
-- behind it. What is behind a patch that is not closed, or damaged, might as well not be there.
use mathlib.Core.Path.{◌≡◌, refl, sym, ap, ap₂, ◌∙◌, subst}
use mathlib.Core.Bool.{Bool, true, false, cond, true≢false}
use mathlib.Core.List.{List, [], ◌∷◌, ◌++◌, append_assoc, append-nil}
use Prim.Native.Nat.{ℕ, ◌+◌}
use native.Mathlib.Omega.{arith}
use lib.ListN.{length, take, drop, length-append, take-append-drop}
use lib.Seq.{take-append_seam, take-append-add}
use Rattle.std.proofs.Common.{Ok}
use Rattle.queue.specs.declared.Answer.{Answer}
use Rattle.queue.specs.Told.{told}
use Rattle.records.specs.Words.{QueueWords}
use Rattle.delay_queue.specs.declared.Call.{Call}
use Rattle.entries.specs.declared.Step.{Step}
use Rattle.entries.specs.declared.Step.TheVariants as S
use Rattle.entries.specs.declared.Ending.TheVariants as E
use Rattle.entries.specs.Entries.{step_bytes, Fit}
use Rattle.entries.specs.Reading as read
use Rattle.entries.specs.Reading.{Bytes}
use Rattle.entries.proofs.laws.Bytes.{bytes_drop}
use Rattle.entries.proofs.laws.Only.{step_only}
use Rattle.journal.specs.Journal.{Acts, asks, opened, open_twice, closed, not_open, unwritten, written, Noted, Journals}
use Rattle.journal.specs.Journal as J
use Rattle.journal.proofs.laws.Once.{journals_more}
use Rattle.recover.specs.Replay.{Found, found, size, Replays, stops, gets, inside, outside, ReplayClaim}
use Rattle.recover.specs.Cut.{NoClose, Unclosed, none_open, not_closed, nothing, no_step, refused, Recovers}
use Rattle.recover.proofs.laws.Cut.{cut_kept}

-- ---- what was read so far of the bytes B

-- c are the calls
pub record Reading (B : List ℕ) (s₀ : QueueWords) (c : List Noted) (l : List ℕ) (at : ℕ) (p : Bool) (s : QueueWords) (kept : ℕ) (t : QueueWords) : Type 0 where
  pub calls : List Noted
  pub journal : List ℕ
  pub keeps : Journals false s₀ calls journal false t
  pub length_kept : kept ≡ length journal
  pub lost : List Noted
  pub unclosed : Unclosed lost
  pub shut : p ≡ false → lost ≡ []
  pub unshut : lost ≡ [] → p ≡ false
  pub lost_bytes : List ℕ
  pub loses : Journals false t lost lost_bytes p s
  pub length_at : at ≡ length journal + length lost_bytes
  pub so_far : calls ++ lost ≡ c
  pub split : B ≡ journal ++ (lost_bytes ++ l)

-- the bytes of a step that was read
front : (l : List ℕ) → Bytes l → (x : Step) → read.next l ≡ Ok x → (a : Answer) → unwritten (told a) ≡ false → l ≡ written x (told a) ++ drop (size x) l
unfolding written
front l h x n a u =
    sym (take-append-drop (size x) l) ∙ ap (λ (m : List ℕ). m ++ drop (size x) l) (step_only l h n).0
    ∙ ap (λ (b : Bool). cond b [] (step_bytes x) ++ drop (size x) l) (sym u)

front_size : (x : Step) (a : Answer) → unwritten (told a) ≡ false → length (written x (told a)) ≡ size x
unfolding written
front_size x a u = ap (λ (b : Bool). length (cond b [] (step_bytes x))) u

-- one step more
one_run : {p q : Bool} {s t : QueueWords} {x : Step} {a : Answer} → Fit x → Acts p s x a q t
    → Journals p s (record { step = x; answer = a } ∷ []) (written x (told a) ++ []) q t
one_run f A = J.next f A J.rest

no_close_more : (l : List Noted) (x : Noted) → NoClose l → (x.step ≡ S.Close → ⊥) → NoClose (l ++ x ∷ [])
no_close_more [] x n c = (c, tt)
no_close_more (y ∷ l) x n c = (n.0, no_close_more l x n.1 c)

asks_close : {c : Call} → S.Asks c ≡ S.Close → ⊥
asks_close e = let z : ◌≡◌ {A = ℕ} 0 1 = cc in omega arith

open_close : S.Open ≡ S.Close → ⊥
open_close e = let z : ◌≡◌ {A = ℕ} 0 1 = cc in omega arith

-- a step that leaves a patch open opens it, or does not close it
more_unclosed : {l : List Noted} {p : Bool} {s t : QueueWords} {x : Step} {a : Answer} → Unclosed l → (l ≡ [] → p ≡ false) → Acts p s x a true t
    → Unclosed (l ++ record { step = x; answer = a } ∷ [])
more_unclosed none_open z (asks A) = absurd (true≢false (z refl))
more_unclosed none_open z (opened f) = not_closed refl tt
more_unclosed none_open z (open_twice f) = not_closed refl tt
more_unclosed {a = a} (not_closed {l = l} e n) z (asks {c = c} A) = not_closed e (no_close_more l (record { step = S.Asks c; answer = a }) n asks_close)
more_unclosed {a = a} (not_closed {l = l} e n) z (opened f) = not_closed e (no_close_more l (record { step = S.Open; answer = a }) n open_close)
more_unclosed {a = a} (not_closed {l = l} e n) z (open_twice f) = not_closed e (no_close_more l (record { step = S.Open; answer = a }) n open_close)

not_empty : (l : List Noted) (x : Noted) → l ++ x ∷ [] ≡ [] → ⊥
not_empty l x e = omega (arith, length-append l (x ∷ []), ap (λ (m : List Noted). length m) e)

glue : (a b d : List ℕ) → (a ++ (b ++ [])) ++ d ≡ a ++ (b ++ d)
glue a b d = simp append_assoc

glue_all : (j a b d : List ℕ) → (j ++ (a ++ (b ++ []))) ++ d ≡ j ++ (a ++ (b ++ d))
glue_all j a b d = simp append_assoc

module _ {B : List ℕ} {s₀ : QueueWords} {c : List Noted} {x : Step} {a : Answer} {m : List ℕ} {at : ℕ} {p : Bool} {s : QueueWords} {kept : ℕ} {t u : QueueWords}
    (I : Reading B s₀ c (written x (told a) ++ m) at p s kept t) (fit : Fit x) where
  pub add_inside : Acts p s x a true u → Reading B s₀ (c ++ record { step = x; answer = a } ∷ []) m (at + length (written x (told a))) true u kept t
  add_inside A =
      let W = written x (told a) in
      let y : Noted = record { step = x; answer = a } in
      record {
        calls = I.calls;
        journal = I.journal;
        keeps = I.keeps;
        length_kept = I.length_kept;
        lost = I.lost ++ y ∷ [];
        unclosed = more_unclosed I.unclosed I.unshut A;
        shut = λ (e : true ≡ false). absurd (true≢false e);
        unshut = λ e. absurd (not_empty I.lost y e);
        lost_bytes = I.lost_bytes ++ (W ++ []);
        loses = journals_more I.loses (one_run fit A);
        length_at = omega (arith, I.length_at, length-append I.lost_bytes (W ++ []), length-append {A = ℕ} W []);
        so_far = sym (append_assoc I.calls I.lost (y ∷ [])) ∙ ap (λ (d : List Noted). d ++ y ∷ []) I.so_far;
        split = I.split ∙ ap (λ (k : List ℕ). I.journal ++ k) (sym (glue I.lost_bytes W m));
      }

  pub add_outside : Acts p s x a false u
      → Reading B s₀ (c ++ record { step = x; answer = a } ∷ []) m (at + length (written x (told a))) false u (at + length (written x (told a))) u
  add_outside A =
      let W = written x (told a) in
      let K = I.journal ++ (I.lost_bytes ++ (W ++ [])) in
      let z : length K ≡ at + length W =
      omega (
        arith,
        I.length_at,
        length-append I.journal (I.lost_bytes ++ (W ++ [])),
        length-append I.lost_bytes (W ++ []),
        length-append {A = ℕ} W [],
      )
      in
      record {
        calls = I.calls ++ (I.lost ++ record { step = x; answer = a } ∷ []);
        journal = K;
        keeps = journals_more I.keeps (journals_more I.loses (one_run fit A));
        length_kept = sym z;
        lost = [];
        unclosed = none_open;
        shut = λ e. refl;
        unshut = λ e. refl;
        lost_bytes = [];
        loses = J.rest;
        length_at = omega (arith, z);
        so_far =
            append-nil (I.calls ++ (I.lost ++ record { step = x; answer = a } ∷ []))
            ∙ sym (append_assoc I.calls I.lost (record { step = x; answer = a } ∷ []))
            ∙ ap (λ (d : List Noted). d ++ record { step = x; answer = a } ∷ []) I.so_far;
        split = I.split ∙ sym (glue_all I.journal I.lost_bytes W m);
      }

module _ {B : List ℕ} {s₀ : QueueWords} {c : List Noted} {l : List ℕ} {at : ℕ} {p : Bool} {s : QueueWords} {kept : ℕ} {t : QueueWords} (h : Bytes l)
    (I : Reading B s₀ c l at p s kept t) {x : Step} (n : read.next l ≡ Ok x) {a : Answer} {u : QueueWords} (w : unwritten (told a) ≡ false) where
  read_inside : Acts p s x a true u → Reading B s₀ (c ++ record { step = x; answer = a } ∷ []) (drop (size x) l) (at + size x) true u kept t
  read_inside A =
      subst (λ (k : ℕ). Reading B s₀ (c ++ record { step = x; answer = a } ∷ []) (drop (size x) l) (at + k) true u kept t) (front_size x a w)
      (add_inside (subst (λ (m : List ℕ). Reading B s₀ c m at p s kept t) (front l h x n a w) I) (step_only l h n).1 A)

  read_outside : Acts p s x a false u → Reading B s₀ (c ++ record { step = x; answer = a } ∷ []) (drop (size x) l) (at + size x) false u (at + size x) u
  read_outside A =
      subst (λ (k : ℕ). Reading B s₀ (c ++ record { step = x; answer = a } ∷ []) (drop (size x) l) (at + k) false u (at + k) u) (front_size x a w)
      (add_outside (subst (λ (m : List ℕ). Reading B s₀ c m at p s kept t) (front l h x n a w) I) (step_only l h n).1 A)

reads_on : {B : List ℕ} {s₀ : QueueWords} {c : List Noted} {l : List ℕ} {at : ℕ} {p : Bool} {s : QueueWords} {kept : ℕ} {t : QueueWords} {f : Found} → Bytes l
    → Reading B s₀ c l at p s kept t → Replays l at p s kept t f → Recovers B s₀ f
reads_on {l = l} {p = p} {s} h I (stops e) =
    record {
      calls = I.calls;
      journal = I.journal;
      keeps = I.keeps;
      kept = I.length_kept;
      lost = I.lost;
      unclosed = I.unclosed;
      lost_bytes = I.lost_bytes;
      patch = p;
      reached = s;
      loses = I.loses;
      at = I.length_at;
      behind = l;
      split = I.split;
      stops = no_step e;
    }
reads_on {l = l} {p = p} {s} h I (gets e A q w) =
    record {
      calls = I.calls;
      journal = I.journal;
      keeps = I.keeps;
      kept = I.length_kept;
      lost = I.lost;
      unclosed = I.unclosed;
      lost_bytes = I.lost_bytes;
      patch = p;
      reached = s;
      loses = I.loses;
      at = I.length_at;
      behind = l;
      split = I.split;
      stops = refused e A q w;
    }
reads_on {c = c} {l = l} h I (inside {x = x} {a = a} e A w R) = reads_on {c = c ++ record { step = x; answer = a } ∷ []} (bytes_drop (size x) l h) (read_inside h I e w A) R
reads_on {c = c} {l = l} h I (outside {x = x} {a = a} e A w R) = reads_on {c = c ++ record { step = x; answer = a } ∷ []} (bytes_drop (size x) l h) (read_outside h I e w A) R

-- ---- the promises

-- any bytes whatever: what is kept of them is a journal that leads to the store found, and why nothing more is
pub replay_recovers : (l : List ℕ) (s : QueueWords) {f : Found} → Bytes l → ReplayClaim l s f → Recovers l s f
replay_recovers l s h R =
    reads_on h
    (record {
      calls = [];
      journal = [];
      keeps = J.rest;
      length_kept = refl;
      lost = [];
      unclosed = none_open;
      shut = λ e. refl;
      unshut = λ e. refl;
      lost_bytes = [];
      loses = J.rest;
      length_at = refl;
      so_far = refl;
      split = refl;
    })
    R

kept_bytes : {l : List ℕ} {s : QueueWords} {f : Found} (R : Recovers l s f) → take f.kept l ≡ R.journal
kept_bytes R = ap₂ (λ (n : ℕ) (m : List ℕ). take n m) R.kept R.split ∙ take-append_seam R.journal (R.lost_bytes ++ R.behind)

-- "and answers as if cut there": the same bytes up to where reading stopped, whatever the damage
pub as_if_cut : (l : List ℕ) (s : QueueWords) {f : Found} → Bytes l → ReplayClaim l s f
    → ReplayClaim (take f.at l) s (found f.kept f.at E.Cut f.store)
as_if_cut l s {f} h C =
    let R = replay_recovers l s h C in
    let K = R.journal in
    let L = R.lost_bytes in
    let e : take f.at l ≡ K ++ (L ++ []) =
    ap₂ (λ (n : ℕ) (m : List ℕ). take n m) R.at R.split ∙ take-append-add K (L ++ R.behind) (length L)
    ∙ ap (λ (m : List ℕ). K ++ m) (take-append_seam L R.behind ∙ sym (append-nil L))
    in
    subst (λ (z : List ℕ × ℕ × ℕ). ReplayClaim z.0 s (found z.1 z.2 E.Cut f.store)) (sym (λ i. (e i, R.kept i, R.at i)))
    (cut_kept R.keeps R.loses R.unclosed nothing)

-- "the length kept, from which writing goes on": what is kept, and behind it what later calls write, is the journal of the calls kept and the later ones
pub goes_on : (l : List ℕ) (s : QueueWords) {f : Found} → Bytes l → ReplayClaim l s f → {later : List Noted} {K : List ℕ} {p : Bool} {u : QueueWords}
    → Journals false f.store later K p u
    → (calls : List Noted) × Journals false s calls (take f.kept l) false f.store × Journals false s (calls ++ later) (take f.kept l ++ K) p u
goes_on l s {f} h C {later} {K} {p} {u} S =
    let R = replay_recovers l s h C in
    let keeps : Journals false s R.calls (take f.kept l) false f.store =
    subst (λ (m : List ℕ). Journals false s R.calls m false f.store) (sym (kept_bytes R)) R.keeps
    in
    (R.calls, keeps, journals_more keeps S)
