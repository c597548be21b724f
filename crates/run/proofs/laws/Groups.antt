-- Four words are those of one call at most (`words_one`), which `call_in` finds by their kind; an answer has six.
use mathlib.Core.Path.{◌≡◌, refl, sym, ap, ◌∙◌}
use mathlib.Core.Bool.{cond}
use mathlib.Core.List.{List, [], ◌∷◌, ◌++◌, append-nil}
use Prim.Native.Nat.{ℕ, suc, ◌+◌, ◌≤◌}
use native.Mathlib.Omega.{arith}
use lib.Dec.{eqb}
use lib.ListN.{length, get_or, take, drop, set}
use lib.Seq.{sets-eq}
use Rattle.queue.specs.declared.Answer.{Answer}
use Rattle.queue.specs.Told.{Told, told}
use Rattle.queue.specs.Told as T
use Rattle.delay_queue.specs.declared.Call.{Call}
use Rattle.delay_queue.specs.declared.Call.TheVariants as C
use Rattle.std.specs.Prelude.{Option, Some, None}
use Rattle.run.specs.Groups.{command_words, answer_words, GroupIs, BlankIs, Written}

-- ---- which call four words are, if they are one

abbrev call_in : ℕ → ℕ → ℕ → ℕ → Call
call_in k a b c =
    cond (eqb k 1) (C.Format a b) (cond (eqb k 2) (C.Insert a b c) (cond (eqb k 3) (C.Reset a b) (cond (eqb k 4) (C.Remove a)
    (cond (eqb k 5) (C.Poll a) (cond (eqb k 6) C.Clear (cond (eqb k 11) (C.PollSome a b) (cond (eqb k 12) C.Wake C.Length)))))))

abbrev pub back : List ℕ → Call
back [] = C.Length
back (k ∷ []) = C.Length
back (k ∷ a ∷ []) = C.Length
back (k ∷ a ∷ b ∷ []) = C.Length
back (k ∷ a ∷ b ∷ c ∷ l) = call_in k a b c

pub back_words : (c : Call) (l : List ℕ) → back (command_words c ++ l) ≡ c
back_words (C.Format n turn) l = refl
back_words (C.Insert value when period) l = refl
back_words (C.Reset key when) l = refl
back_words (C.Remove key) l = refl
back_words (C.Poll now) l = refl
back_words (C.PollSome now limit) l = refl
back_words C.Wake l = refl
back_words C.Length l = refl
back_words C.Clear l = refl

-- four words, and what stands behind them
pub words_four : (c : Call) (l : List ℕ) → take 4 (command_words c ++ l) ≡ command_words c
words_four (C.Format n turn) l = refl
words_four (C.Insert value when period) l = refl
words_four (C.Reset key when) l = refl
words_four (C.Remove key) l = refl
words_four (C.Poll now) l = refl
words_four (C.PollSome now limit) l = refl
words_four C.Wake l = refl
words_four C.Length l = refl
words_four C.Clear l = refl

pub words_behind : (c : Call) (l : List ℕ) → drop 4 (command_words c ++ l) ≡ l
words_behind (C.Format n turn) l = refl
words_behind (C.Insert value when period) l = refl
words_behind (C.Reset key when) l = refl
words_behind (C.Remove key) l = refl
words_behind (C.Poll now) l = refl
words_behind (C.PollSome now limit) l = refl
words_behind C.Wake l = refl
words_behind C.Length l = refl
words_behind C.Clear l = refl

pub words_length : (c : Call) → length (command_words c) ≡ 4
words_length (C.Format n turn) = refl
words_length (C.Insert value when period) = refl
words_length (C.Reset key when) = refl
words_length (C.Remove key) = refl
words_length (C.Poll now) = refl
words_length (C.PollSome now limit) = refl
words_length C.Wake = refl
words_length C.Length = refl
words_length C.Clear = refl

pub answer_length : (x : Told) → length (answer_words x) ≡ 6
answer_length T.ok = refl
answer_length (T.key k) = refl
answer_length (T.gone v d) = refl
answer_length (T.out k v d m n) = refl
answer_length (T.last k v d m n) = refl
answer_length (T.none m n) = refl
answer_length (T.wake t) = refl
answer_length T.never = refl
answer_length (T.len n) = refl
answer_length (T.no n) = refl
answer_length (T.yet m n) = refl

pub words_one : (c d : Call) (l m : List ℕ) → command_words c ++ l ≡ command_words d ++ m → c ≡ d
words_one c d l m e = sym (back_words c l) ∙ ap back e ∙ back_words d m

pub words_is : {g : List ℕ} (c : Call) → g ≡ command_words c → back g ≡ c
words_is c e = ap back (e ∙ sym (append-nil (command_words c))) ∙ back_words c []

-- the words of a call that is known
pub by_words : {c k : Call} → c ≡ k → command_words k ≡ command_words c
by_words e = ap command_words (sym e)

-- ---- `if_blank`

not_asks : {P : Type 0} {c : Call} → None ≡ Some c → P
not_asks e = let z : ◌≡◌ {A = ℕ} 0 1 = cc in absurd (omega arith)

asks_not : {P : Type 0} {c : Call} → Some c ≡ None → P
asks_not e = let z : ◌≡◌ {A = ℕ} 0 1 = cc in absurd (omega arith)

module _ {x y z : ℕ} {c : Call} where
  pub blank_no : (x ≡ 0 → y ≡ 0 → z ≡ 0 → ⊥) → BlankIs x y z c None
  blank_no f = record { asks = λ d e. not_asks e; not = λ e. f }

  pub blank_yes : x ≡ 0 → y ≡ 0 → z ≡ 0 → BlankIs x y z c (Some c)
  blank_yes p q r = record { asks = λ d e. (let i : c ≡ d = cc in sym i, p, q, r); not = λ e. asks_not e }

-- ---- the arms of `call_of`

-- the words g are of the kind of d; they are d's just where x, y and z are 0
arm : {g : List ℕ} {x y z : ℕ} {r : Option Call} (d : Call) → back g ≡ d → (x ≡ 0 → y ≡ 0 → z ≡ 0 → g ≡ command_words d)
    → (g ≡ command_words d → (x ≡ 0) × (y ≡ 0) × (z ≡ 0)) → BlankIs x y z d r → GroupIs g r
arm {g} d i f h B =
    record {
      asks = λ c e. let b = B.asks c e in f b.1 b.2 b.3 ∙ ap command_words (sym b.0);
      not = λ n c e.
          let w : g ≡ command_words d = e ∙ ap command_words (sym (words_is c e) ∙ i) in
          let z = h w in
          B.not n z.0 z.1 z.2;
    }

-- the word at i
abbrev word : {l m : List ℕ} (i : ℕ) → l ≡ m → get_or l i 0 ≡ get_or m i 0
word i e = ap (λ (l : List ℕ). get_or l i 0) e

module _ {k a b c : ℕ} {r : Option Call} where
  pub is_format_lem : k ≡ 1 → BlankIs 0 0 c (C.Format a b) r → GroupIs (k ∷ a ∷ b ∷ c ∷ []) r
  is_format_lem e B = arm (C.Format a b) (ap (λ j. call_in j a b c) e) (λ x y z. λ i. e i ∷ a ∷ b ∷ z i ∷ []) (λ w. (refl, refl, word 3 w)) B

  pub is_insert : k ≡ 2 → BlankIs 0 0 0 (C.Insert a b c) r → GroupIs (k ∷ a ∷ b ∷ c ∷ []) r
  is_insert e B = arm (C.Insert a b c) (ap (λ j. call_in j a b c) e) (λ x y z. λ i. e i ∷ a ∷ b ∷ c ∷ []) (λ w. (refl, refl, refl)) B

  pub is_reset : k ≡ 3 → BlankIs 0 0 c (C.Reset a b) r → GroupIs (k ∷ a ∷ b ∷ c ∷ []) r
  is_reset e B = arm (C.Reset a b) (ap (λ j. call_in j a b c) e) (λ x y z. λ i. e i ∷ a ∷ b ∷ z i ∷ []) (λ w. (refl, refl, word 3 w)) B

  pub is_remove : k ≡ 4 → BlankIs 0 b c (C.Remove a) r → GroupIs (k ∷ a ∷ b ∷ c ∷ []) r
  is_remove e B = arm (C.Remove a) (ap (λ j. call_in j a b c) e) (λ x y z. λ i. e i ∷ a ∷ y i ∷ z i ∷ []) (λ w. (refl, word 2 w, word 3 w)) B

  pub is_poll_lem : k ≡ 5 → BlankIs 0 b c (C.Poll a) r → GroupIs (k ∷ a ∷ b ∷ c ∷ []) r
  is_poll_lem e B = arm (C.Poll a) (ap (λ j. call_in j a b c) e) (λ x y z. λ i. e i ∷ a ∷ y i ∷ z i ∷ []) (λ w. (refl, word 2 w, word 3 w)) B

  pub is_clear : k ≡ 6 → BlankIs a b c C.Clear r → GroupIs (k ∷ a ∷ b ∷ c ∷ []) r
  is_clear e B = arm C.Clear (ap (λ j. call_in j a b c) e) (λ x y z. λ i. e i ∷ x i ∷ y i ∷ z i ∷ []) (λ w. (word 1 w, word 2 w, word 3 w)) B

  pub is_some : k ≡ 11 → BlankIs 0 0 c (C.PollSome a b) r → GroupIs (k ∷ a ∷ b ∷ c ∷ []) r
  is_some e B = arm (C.PollSome a b) (ap (λ j. call_in j a b c) e) (λ x y z. λ i. e i ∷ a ∷ b ∷ z i ∷ []) (λ w. (refl, refl, word 3 w)) B

  pub is_wake : k ≡ 12 → BlankIs a b c C.Wake r → GroupIs (k ∷ a ∷ b ∷ c ∷ []) r
  is_wake e B = arm C.Wake (ap (λ j. call_in j a b c) e) (λ x y z. λ i. e i ∷ x i ∷ y i ∷ z i ∷ []) (λ w. (word 1 w, word 2 w, word 3 w)) B

  pub is_length : k ≡ 13 → BlankIs a b c C.Length r → GroupIs (k ∷ a ∷ b ∷ c ∷ []) r
  is_length e B = arm C.Length (ap (λ j. call_in j a b c) e) (λ x y z. λ i. e i ∷ x i ∷ y i ∷ z i ∷ []) (λ w. (word 1 w, word 2 w, word 3 w)) B

-- k is no kind, as a match tells
abbrev NoKind : ℕ → Type 0
NoKind k =
    ((((((((Unit {0} × (k ≡ 1 → ⊥)) × (k ≡ 2 → ⊥)) × (k ≡ 3 → ⊥)) × (k ≡ 4 → ⊥)) × (k ≡ 5 → ⊥)) × (k ≡ 6 → ⊥)) × (k ≡ 11 → ⊥)) × (k ≡ 12 → ⊥)) × (k ≡ 13 → ⊥)

none_such : {k a b c : ℕ} → NoKind k → (d : Call) → k ∷ a ∷ b ∷ c ∷ [] ≡ command_words d → ⊥
none_such n (C.Format x turn) e = n.0.0.0.0.0.0.0.0.1 (word 0 e)
none_such n (C.Insert value when period) e = n.0.0.0.0.0.0.0.1 (word 0 e)
none_such n (C.Reset key when) e = n.0.0.0.0.0.0.1 (word 0 e)
none_such n (C.Remove key) e = n.0.0.0.0.0.1 (word 0 e)
none_such n (C.Poll now) e = n.0.0.0.0.1 (word 0 e)
none_such n C.Clear e = n.0.0.0.1 (word 0 e)
none_such n (C.PollSome now limit) e = n.0.0.1 (word 0 e)
none_such n C.Wake e = n.0.1 (word 0 e)
none_such n C.Length e = n.1 (word 0 e)

pub is_nothing : {k a b c : ℕ} → NoKind k → GroupIs (k ∷ a ∷ b ∷ c ∷ []) None
is_nothing n = record { asks = λ d e. not_asks e; not = λ e. none_such n }

-- ---- six words are written

pub six_written : (i : ℕ) (l : List ℕ) (n a b c d e : ℕ) → i + 6 ≤ length l
    → Written i (n ∷ a ∷ b ∷ c ∷ d ∷ e ∷ []) l (set (set (set (set (set (set l i n) (i + 1) a) (i + 2) b) (i + 3) c) (i + 4) d) (i + 5) e)
unfolding Written
six_written i l n a b c d e h =
    let one : i + 1 ≡ suc i = omega arith in
    let two : i + 2 ≡ suc (suc i) = omega arith in
    let three : i + 3 ≡ suc (suc (suc i)) = omega arith in
    let four : i + 4 ≡ suc (suc (suc (suc i))) = omega arith in
    let five : i + 5 ≡ suc (suc (suc (suc (suc i)))) = omega arith in
    rw (one, two, three, four, five) (sets-eq (n ∷ a ∷ b ∷ c ∷ d ∷ e ∷ []) l i h)

pub by_answer : {a b : Answer} (i : ℕ) (s t : List ℕ) → a ≡ b → Written i (answer_words (told b)) s t → Written i (answer_words (told a)) s t
by_answer i s t e w = rw e w
