-- The steps of `close`: the words behind one that goes move up.
use mathlib.Core.Path.{◌≡◌, sym, ap, ap₂, ◌∙◌}
use mathlib.Core.List.{List}
use Prim.Native.Nat.{ℕ, suc, ◌+◌, ◌-◌, ◌≤◌, ◌<◌}
use native.Mathlib.Omega.{arith}
use lib.ListN.{length, drop, get_or, set, length-drop}
use lib.Seq.{paste, paste-zero, paste-suc, drop-paste, get_or-drop}

-- those up to j have moved
abbrev pub Closed : List ℕ → ℕ → ℕ → List ℕ
Closed w i j = paste w i (drop (i + 1) w) (j - i)

pub close_none : (w : List ℕ) (i : ℕ) → w ≡ Closed w i i
close_none w i =
    let z : ◌≡◌ {A = ℕ} 0 (i - i) = omega arith in
    paste-zero w i (drop (i + 1) w) ∙ ap (λ (k : ℕ). paste w i (drop (i + 1) w) k) z

module _ (w : List ℕ) (i j : ℕ) (low : i ≤ j) (high : j + 1 < length w) where
  abbrev s : List ℕ
  s = drop (i + 1) w

  abbrev k : ℕ
  k = j - i

  place : i + k ≡ j
  place = omega arith

  -- what is moved has not been overwritten
  still : get_or (Closed w i j) (j + 1) 0 ≡ get_or s k 0
  still =
      let p : i + k + 1 ≡ j + 1 = omega arith in
      let q : i + k + 1 ≡ i + 1 + k = omega arith in
      ap (λ (m : ℕ). get_or (Closed w i j) m 0) (sym p)
      ∙ sym (get_or-drop (i + k) (Closed w i j) 1 0)
      ∙ ap (λ (l : List ℕ). get_or l 1 0) (drop-paste w i s k (omega arith) (simp length-drop (omega arith)))
      ∙ get_or-drop (i + k) w 1 0
      ∙ ap (λ (m : ℕ). get_or w m 0) q
      ∙ sym (get_or-drop (i + 1) w k 0)

  pub close_step : {v : List ℕ} → v ≡ Closed w i j → set v j (get_or v (j + 1) 0) ≡ Closed w i (j + 1)
  close_step {v} e =
      let q : suc k ≡ j + 1 - i = omega arith in
      ap (λ (l : List ℕ). set l j (get_or l (j + 1) 0)) e
      ∙ ap₂ (λ (m x : ℕ). set (Closed w i j) m x) (sym place) still
      ∙ paste-suc w i s k 0 (omega arith) (simp length-drop (omega arith))
      ∙ ap (λ (m : ℕ). paste w i s m) q
