-- For a program that takes the lines of its input one after the other: however the input was cut into chunks, each of its lines was taken.
use mathlib.Core.Path.{◌≡◌, refl, sym, ap, ap₂, ◌∙◌, subst}
use mathlib.Core.Bool.{Bool, true, false, true≢false, false≢true}
use mathlib.Core.List.{List, [], ◌∷◌, ◌++◌, append-nil, append_assoc}
use Prim.Native.Nat.{ℕ, ◌+◌, ◌≤◌, ◌<◌}
use native.Mathlib.Omega.{arith}
use lib.ListN.{length, take, drop, length-append, drop_of_length-le}
use Rattle.lines.specs.Lines.{lines_from, lines_of, firsts, last, joined}
use Rattle.lines.specs.Taking.{TakeClaim}
use Rattle.lines.specs.Passed.{Passed}
use Rattle.lines.specs.Running.{Along, none, more, Chunk, used, ended, part, Closes, Passes, Reads, ProgramRan}
use Rattle.lines.proofs.laws.Lines.{input_ends}
use Rattle.lines.proofs.laws.Once.{take_once}
use Rattle.lines.proofs.laws.Passed.{passed_none, passed_more, passed_line, passed_end}

-- a chunk behind others
joined_more : (cs : List (List ℕ)) (c : List ℕ) → joined (cs ++ c ∷ []) ≡ joined cs ++ c
joined_more [] c = append-nil c
joined_more (d ∷ cs) c = ap (λ (x : List ℕ). d ++ x) (joined_more cs c) ∙ sym (append_assoc d (joined cs) c)

module _ {A : Type 0} (Takes : List ℕ → A → A → Type 0) where
  -- whatever comes of where a loop over a chunk stands comes of where it began
  pub record Reaches (got line₀ : List ℕ) (n : ℕ) (a₀ : A) (line : List ℕ) (i k : ℕ) (a : A) : Type 0 where
    pub then : (line' : List ℕ) (k' : ℕ) (a' : A) → Chunk Takes got i line k a line' k' a' → Chunk Takes got 0 line₀ n a₀ line' k' a'

module _ {A : Type 0} {Takes : List ℕ → A → A → Type 0} where
  -- lines, and others behind them
  pub along_more : {ls ms : List (List ℕ)} {a b c : A} → Along Takes ls a b → Along Takes ms b c → Along Takes (ls ++ ms) a c
  along_more none y = y
  along_more (more x r) y = more x (along_more r y)

  -- ---- the end

  -- what is kept is the last line
  pub closes_line : (k : List ℕ) {a b : A} {t : Bool} → t ≡ true → 0 < length k → Takes k a b → Closes Takes k a t b
  closes_line [] e h x = absurd (omega arith)
  closes_line (c ∷ k) e h x = record { closed = λ f. more x none; broken = λ f. absurd (true≢false (sym e ∙ f)) }

  -- nothing is kept
  pub closes_none : (k : List ℕ) {a : A} {t : Bool} → length k ≡ 0 → Closes Takes k a t a
  closes_none [] h = record { closed = λ f. none; broken = λ f. refl }
  closes_none (c ∷ k) h = absurd (omega arith)

  -- the input broke off
  pub breaks_off : {k : List ℕ} {a : A} {t : Bool} → t ≡ false → Closes Takes k a t a
  breaks_off e = record { closed = λ f. absurd (false≢true (sym e ∙ f)); broken = λ f. refl }

  -- ---- lines that have ended

  pub passes_none : {m : ℕ} {k s : List ℕ} {a : A} → Passes Takes m k s a k s a
  passes_none = record { lines = []; passed = passed_none; along = none }

  pub passes_more : {m : ℕ} {k s k₁ s₁ k' s' : List ℕ} {a a₁ a' : A} → Passes Takes m k s a k₁ s₁ a₁ → Passes Takes m k₁ s₁ a₁ k' s' a'
      → Passes Takes m k s a k' s' a'
  passes_more x y =
      record { lines = x.lines ++ y.lines; passed = passed_more x.passed y.passed; along = along_more x.along y.along }

  -- whatever comes behind what is left
  behind : {m : ℕ} {k s k' s' : List ℕ} {a a' : A} (t : List ℕ) → Passes Takes m k s a k' s' a' → Passes Takes m k (s ++ t) a k' (s' ++ t) a'
  behind {m} {k} {s} {k'} {s'} t x =
      record {
        lines = x.lines;
        passed = record {
          first = λ u.
              ap (λ (y : List ℕ). firsts m (lines_from k y)) (append_assoc s t u)
              ∙ x.passed.first (t ++ u)
              ∙ ap (λ (y : List ℕ). x.lines ++ firsts m (lines_from k' y)) (sym (append_assoc s' t u));
        };
        along = x.along;
      }

  -- ---- a chunk

  pub chunk_size : {got : List ℕ} {i k k' : ℕ} {line line' : List ℕ} {a a' : A} → Chunk Takes got i line k a line' k' a'
      → length line' ≡ length line
  chunk_size (used h) = refl
  chunk_size (ended h T S c) = chunk_size c ∙ T.size
  chunk_size (part h T c) = chunk_size c ∙ T.size

  -- what is kept lies within the room
  pub chunk_fits : {got : List ℕ} {i k k' : ℕ} {line line' : List ℕ} {a a' : A} → Chunk Takes got i line k a line' k' a' → k ≤ length line
      → k' ≤ length line'
  chunk_fits (used h) f = f
  chunk_fits (ended h T S c) f = chunk_fits c (omega arith)
  chunk_fits (part h T c) f = chunk_fits c (omega (arith, T.fits, T.size))

  -- the lines that ended in it were taken, and it is used up
  pub chunk_passes : {got : List ℕ} {i k k' : ℕ} {line line' : List ℕ} {a a' : A} (m : ℕ) → length line ≡ m → 0 < m
      → Chunk Takes got i line k a line' k' a' → Passes Takes m (take k line) (drop i got) a (take k' line') [] a'
  chunk_passes {got} {k = k} {line = line} {a = a} m e some (used h) =
      subst (λ (x : List ℕ). Passes Takes m (take k line) x a (take k line) [] a) (sym (drop_of_length-le got h)) passes_none
  chunk_passes {got} {i = i} {k = k} {line = line} m e some (ended {i₁ = i₁} {k₁ = k₁} {line₁ = line₁} h T S c) =
      let p = subst (λ (x : ℕ). Passed x (take k line) (drop i got) (take k₁ line₁ ∷ []) [] (drop i₁ got)) e (passed_line (omega arith) T) in
      passes_more (record { lines = take k₁ line₁ ∷ []; passed = p; along = more S none }) (chunk_passes m (T.size ∙ e) some c)
  chunk_passes {got} {i = i} {k = k} {line = line} m e some (part {i₁ = i₁} {k₁ = k₁} {line₁ = line₁} h T c) =
      let p = subst (λ (x : ℕ). Passed x (take k line) (drop i got) [] (take k₁ line₁) (drop i₁ got)) e (passed_end (omega arith) T) in
      passes_more (record { lines = []; passed = p; along = none }) (chunk_passes m (T.size ∙ e) some c)

  pub reaches_none : {got line : List ℕ} {n : ℕ} {a : A} → Reaches Takes got line n a line 0 n a
  reaches_none = record { then = λ l k a c. c }

  module _ {got line₀ : List ℕ} {n : ℕ} {a₀ : A} {line : List ℕ} {i k : ℕ} {a : A} (R : Reaches Takes got line₀ n a₀ line i k a) (h : i < length got) where
    module _ {i₁ k₁ : ℕ} {b : Bool} {line₁ : List ℕ} (T : TakeClaim got i line k i₁ k₁ b line₁) where
      abbrev told : {c : Bool} → b ≡ c → TakeClaim got i line k i₁ k₁ c line₁
      told e = subst (λ (x : Bool). TakeClaim got i line k i₁ k₁ x line₁) e T

      -- a line has ended
      pub reaches_line : (a₁ : A) → b ≡ true → Takes (take k₁ line₁) a a₁ → Reaches Takes got line₀ n a₀ line₁ i₁ 0 a₁
      reaches_line a₁ e S = record { then = λ l k a c. R.then l k a (ended h (told e) S c) }

      -- the chunk has
      pub reaches_part : b ≡ false → Reaches Takes got line₀ n a₀ line₁ i₁ k₁ a
      reaches_part e = record { then = λ l k a c. R.then l k a (part h (told e) c) }

  -- where a line leaves one outcome, a chunk does
  module _ (once : (l : List ℕ) (a b c : A) → Takes l a b → Takes l a c → b ≡ c) where
    from_same : {got m : List ℕ} {i j k l y : ℕ} {p q : List ℕ} {a b c : A} → i ≡ j → p ≡ q → k ≡ l → a ≡ b → Chunk Takes got j q l b m y c
        → Chunk Takes got i p k a m y c
    from_same {got} {m} {i} {j} {k} {l} {y} {p} {q} {a} {b} {c} e f g h r =
        subst (λ (x : ℕ). Chunk Takes got x p k a m y c) (sym e)
        (subst (λ (x : List ℕ). Chunk Takes got j x k a m y c) (sym f)
        (subst (λ (x : ℕ). Chunk Takes got j q x a m y c) (sym g) (subst (λ (x : A). Chunk Takes got j q l x m y c) (sym h) r)))

    pub chunk_once : {got : List ℕ} {i k x y : ℕ} {line l m : List ℕ} {a b c : A} → Chunk Takes got i line k a l x b
        → Chunk Takes got i line k a m y c
        → (l ≡ m) × (x ≡ y) × (b ≡ c)
    chunk_once (used h) (used f) = (refl, refl, refl)
    chunk_once (used h) (ended f T S c) = absurd (omega arith)
    chunk_once (used h) (part f T c) = absurd (omega arith)
    chunk_once (ended f T S c) (used h) = absurd (omega arith)
    chunk_once (part f T c) (used h) = absurd (omega arith)
    chunk_once (ended f T S c) (part g U d) = absurd (true≢false (take_once true false T U).2)
    chunk_once (part f T c) (ended g U R d) = absurd (false≢true (take_once false true T U).2)
    chunk_once {a = a} (ended {k₁ = k₁} {line₁ = line₁} {a₁ = a₁} f T S c) (ended {a₁ = b₁} g U R d) =
        let e = take_once true true T U in
        let r = subst (λ (x : List ℕ). Takes x a b₁) (sym (ap₂ (λ (n : ℕ) (z : List ℕ). take n z) e.1 e.3)) R in
        chunk_once c (from_same e.0 e.3 refl (once (take k₁ line₁) a a₁ b₁ S r) d)
    chunk_once (part f T c) (part g U d) = let e = take_once false false T U in chunk_once c (from_same e.0 e.3 e.1 refl d)

  -- ---- chunks that are read, and a whole run

  pub reads_none : {m : ℕ} {k : List ℕ} {a : A} → Reads Takes m k a 0 k a
  reads_none = record { chunks = []; size = refl; passes = passes_none }

  -- one chunk more was read, of n bytes, and all of it used up
  pub reads_more : {m i j n : ℕ} {k k₁ k₂ c : List ℕ} {a a₁ a₂ : A} → Reads Takes m k a i k₁ a₁ → Passes Takes j k₁ c a₁ k₂ [] a₂ → j ≡ m
      → n ≡ length c
      → Reads Takes m k a (i + n) k₂ a₂
  reads_more {m} {k = k} {k₁} {k₂} {c} {a} {a₁} {a₂} R x e h =
      let p : Passes Takes m k₁ c a₁ k₂ [] a₂ = subst (λ (y : ℕ). Passes Takes y k₁ c a₁ k₂ [] a₂) e x in
      let s = joined_more R.chunks c in
      record {
        chunks = R.chunks ++ c ∷ [];
        size = omega (arith, ap (λ (y : List ℕ). length y) s, length-append (joined R.chunks) c, R.size, h);
        passes = subst (λ (y : List ℕ). Passes Takes m k y a k₂ [] a₂) (sym s) (passes_more (behind c R.passes) p);
      }

  pub ran : {m : ℕ} {k k₁ : List ℕ} {a a₁ a' : A} {i : ℕ} {ended : Bool} → Reads Takes m k a i k₁ a₁ → length k₁ ≤ m → Closes Takes k₁ a₁ ended a'
      → ProgramRan Takes m k a i ended a'
  ran {k₁ = k₁} {a₁ = a₁} R h c = record { kept = k₁; short = h; between = a₁; reads = R; closes = c }

  -- where a run has read its input to the end, it has taken each line of it, as its first m bytes
  pub ran_all : {m n : ℕ} {a a' : A} → 0 < m → ProgramRan Takes m [] a n true a'
      → (cs : List (List ℕ)) × (length (joined cs) ≡ n) × Along Takes (firsts m (lines_of (joined cs))) a a'
  ran_all {m} {a = a} {a' = a'} some R =
      let cs = R.reads.chunks in
      let p = R.reads.passes in
      let e : firsts m (lines_of (joined cs)) ≡ p.lines ++ last R.kept =
      ap (λ (x : List ℕ). firsts m (lines_of x)) (sym (append-nil (joined cs)))
      ∙ p.passed.first []
      ∙ ap (λ (x : List (List ℕ)). p.lines ++ x) (input_ends m some R.kept R.short)
      in
      (cs, R.reads.size, subst (λ (ls : List (List ℕ)). Along Takes ls a a') (sym e) (along_more p.along (R.closes.closed refl)))
