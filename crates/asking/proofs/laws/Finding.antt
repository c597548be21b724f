-- The reader's last step: the call of a letter and of the numbers behind it, and the claim on reading from what the parts found.
use mathlib.Core.Path.{◌≡◌, refl, sym, ap, ap₂, ◌∙◌, subst}
use mathlib.Core.List.{List, [], ◌∷◌, head-eq_of_cons-eq, tail-eq_of_cons-eq}
use mathlib.Core.Logic.{by_cases}
use Prim.Native.Nat.{ℕ, ◌-◌, ◌≤◌, ◌<◌}
use native.Mathlib.Omega.{arith}
use lib.ListN.{length, take, drop, get_or}
use Rattle.delay_queue.specs.declared.Call.{Call}
use Rattle.std.specs.Prelude.{Option, Some, None}
use Rattle.asking.specs.declared.Fields.{Fields}
use Rattle.asking.specs.declared.Fields.TheVariants as F
use Rattle.decimals.specs.Text.{Spaced}
use Rattle.asking.specs.Text.{letter, numbers, Says, ReadClaim}
use Rattle.decimals.proofs.laws.Spacing.{one_list}
use Rattle.asking.specs.Parts.{Holds, fields_of, calls, call_of}
use Rattle.asking.proofs.laws.Asking.{same_call, own, many, one_call}
use Rattle.splitting.proofs.laws.Fields.{from}
use Rattle.splitting.proofs.laws.Letters.{All, letter_found}

-- ---- the claim from its two halves, of which the second says all that is left to say of a bad line

claim : (l : List ℕ) (r : Option Call) → ((c : Call) → r ≡ Some c → Says l c) → ((c : Call) → Says l c → r ≡ Some c) → ReadClaim l r
claim l r only all = record { asks = λ c. (only c, all c); bad = (unsaid, unread r only) }
  where
    unsaid : r ≡ None → (c : Call) → Says l c → ⊥
    unsaid e c s = let k = all c s in let z : ◌≡◌ {A = ℕ} 0 1 = cc in omega arith

    unread : (s : Option Call) → ((c : Call) → s ≡ Some c → Says l c) → ((c : Call) → Says l c → ⊥) → s ≡ None
    unread (Some c) f n = absurd (n c (f c refl))
    unread None f n = refl

nothing : (l : List ℕ) → ((c : Call) → Says l c → ⊥) → ReadClaim l None
nothing l n = claim l None (λ c e. let z : ◌≡◌ {A = ℕ} 0 1 = cc in absurd (omega arith)) (λ c s. absurd (n c s))

something : (l : List ℕ) (c : Call) → Says l c → ReadClaim l (Some c)
something l c s =
    claim l (Some c) (λ d e. subst (λ (x : Call). Says l x) (same_call e) s) (λ d z. ap (λ (x : Call). Some x) (one_call s z))

-- any line may be taken as read where the goal can be tested: it says a call or none
pub as_read : (l : List ℕ) {P : Type 0} → Dec P → ((r : Option Call) → ReadClaim l r → P) → P
as_read l d f = by_cases d (λ p. p) (λ k. absurd (k (f None (nothing l (λ c s. k (f (Some c) (something l c s)))))))

-- ---- a letter, and the numbers that were found behind it

held : (l : List ℕ) (f : Option Fields) → Holds 3 l f → All (λ c. Spaced l (numbers c)) (calls f)
held l (Some F.Empty) h = (h, (h, (h, tt)))
held l (Some (F.One x)) h = (h, (h, tt))
held l (Some (F.Two x y)) h = (h, (h, (h, tt)))
held l (Some (F.Three x y z)) h = (h, tt)
held l None h = tt

told : (l ns : List ℕ) (f : Option Fields) → Holds 3 l f → Spaced l ns → f ≡ fields_of ns
told l ns (Some F.Empty) h s = ap fields_of (one_list l [] ns h s)
told l ns (Some (F.One x)) h s = ap fields_of (one_list l (x ∷ []) ns h s)
told l ns (Some (F.Two x y)) h s = ap fields_of (one_list l (x ∷ y ∷ []) ns h s)
told l ns (Some (F.Three x y z)) h s = ap fields_of (one_list l (x ∷ y ∷ z ∷ []) ns h s)
told l ns None h s = many ns (h ns s)

pub line : (b : ℕ) (l : List ℕ) (f : Option Fields) (r : Option Call) → length (b ∷ l) ≤ 80 → Holds 3 l f → r ≡ call_of b f → ReadClaim (b ∷ l) r
unfolding call_of
line b l f r k h e = claim (b ∷ l) r only all
  where
    only : (c : Call) → r ≡ Some c → Says (b ∷ l) c
    only c q =
        let g = letter_found letter (λ c. Spaced l (numbers c)) b (calls f) (held l f h) c (sym e ∙ q) in
        record { rest = l; line = ap (λ x. x ∷ l) g.0; fields = g.1; short = k }

    all : (c : Call) → Says (b ∷ l) c → r ≡ Some c
    all c s =
        let t : Spaced l (numbers c) = subst (λ x. Spaced x (numbers c)) (sym (tail-eq_of_cons-eq s.line)) s.fields in
        e ∙ ap₂ (λ (x : ℕ) (g : Option Fields). call_of x g) (head-eq_of_cons-eq s.line) (told l (numbers c) f h t) ∙ own c

-- the same for `line[0]` and `&line[1..]`
pub whole_line : (l : List ℕ) (f : Option Fields) (r : Option Call) → 0 < length l → length l ≤ 80 → Holds 3 (take (length l - 1) (drop 1 l)) f
    → r ≡ call_of (get_or l 0 0) f → ReadClaim l r
whole_line [] f r h k p e = absurd (omega arith)
whole_line (b ∷ l) f r h k p e = line b l f r k (rw (from (b ∷ l) 1) at p) e
