-- texts written one behind the other
use Rattle.std.proofs.Common.{arith, refl, ◌≡◌, ◌≤◌, ◌<◌, ◌+◌, ℕ, List, [], ◌∷◌, ◌++◌, length, take, drop, slice_set, sym, ◌∙◌, ap, append_assoc, length-append, length-drop, length-take}
use Rattle.std.proofs.Math.Seq.{drop-append_seam}
use Rattle.std.proofs.lemmas.List.{drop-append-le, drop-drop}
use Rattle.pen.specs.declared.Page.{Page}
use Rattle.pen.specs.Pen.{waiting, SameRoom, Wrote}

-- as many bytes wait as its pen counts
counted : (p : Page) → length (waiting p) ≡ p.pen.at
counted p = simp length-take (omega arith)

-- a byte behind those that wait is left alone where they are written
pub all_written : (p : Page) (b : ℕ) → (p.pen.at ≤ length (waiting p ++ (b ∷ []))) × (drop p.pen.at (waiting p ++ (b ∷ [])) ≡ b ∷ [])
all_written p b =
    let e = counted p in
    (omega (arith, e, length-append (waiting p) (b ∷ [])), ap (λ k. drop k (waiting p ++ (b ∷ []))) (sym e) ∙ drop-append_seam (waiting p) (b ∷ []))

-- the first byte of a room, alone
pub front_alone : (out : List ℕ) (b : ℕ) → 0 < length out → take 1 (slice_set out 0 b) ≡ b ∷ []
front_alone [] b some = absurd (omega (arith, some))
front_alone (x ∷ out) b some = refl

-- one change and then another
pub same_more : {p q r : Page} → SameRoom p q → SameRoom q r → SameRoom p r
same_more a b = record {
  same_room = b.same_room ∙ a.same_room;
  same_size = b.same_size ∙ a.same_size;
  failed = λ f. a.failed (b.failed f);
}

-- one text and then another
pub wrote_more : {p q r : Page} {s t : List ℕ} → Wrote p s q → Wrote q t r → Wrote p (s ++ t) r
wrote_more {p} {q} {r} {s} {t} a b =
    let e : waiting p ++ (s ++ t) ≡ (waiting p ++ s) ++ t = sym (append_assoc (waiting p) s t) in
    let passed : drop a.written ((waiting p ++ s) ++ t) ≡ waiting q ++ t
    = drop-append-le a.written (waiting p ++ s) t a.few ∙ ap (λ l. l ++ t) (sym a.waits) in
    let waits : drop (a.written + b.written) (waiting p ++ (s ++ t)) ≡ waiting r
    = rw e (sym (drop-drop b.written a.written ((waiting p ++ s) ++ t)) ∙ ap (drop b.written) passed ∙ sym b.waits) in
    let left : length (waiting q) + a.written ≡ length (waiting p ++ s) = omega (arith, a.few, ap length a.waits ∙ length-drop a.written (waiting p ++ s)) in
    record {
      same = same_more a.same b.same;
      written = a.written + b.written;
      few = rw e (omega (arith, left, b.few, length-append (waiting q) t, length-append (waiting p ++ s) t));
      waits = sym waits;
      fits = λ h. omega (arith, left, a.fits, b.fits, a.same.same_size, counted p, counted q, length-append (waiting p) s, length-append s t);
    }
