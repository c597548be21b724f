-- An entry leaves one store at most, and whether it is right can be told.
use mathlib.Core.Path.{◌≡◌, refl, sym, ap, ap₂, ◌∙◌, subst}
use mathlib.Core.Logic.{◌⊎◌, inl, inr, ⊎_elim, by_cases}
use mathlib.Core.List.{List, [], ◌∷◌, ◌++◌, head-eq_of_cons-eq, tail-eq_of_cons-eq}
use Prim.Native.Nat.{ℕ, ◌≤◌, ◌<◌, max}
use native.Mathlib.Decide.{ℕ_discrete, dec_lt, dec_le}
use lib.ListN.{length}
use Rattle.inspector.specs.declared.Entry.{Entry}
use Rattle.inspector.specs.declared.Entry.TheVariants as E
use Rattle.inspector.specs.Log.{Timer, timer, Store, store, Every, Free, Pends, Step}

-- ---- a key has one first place

split_once : (key : ℕ) {x y : ℕ} (a b c d : List Timer) → Free key a → Free key c → a ++ timer key x ∷ b ≡ c ++ timer key y ∷ d
    → (a ≡ c) × (x ≡ y) × (b ≡ d)
split_once key [] b [] d f g e = (refl, ap (λ (t : Timer). t.deadline) (head-eq_of_cons-eq e), tail-eq_of_cons-eq e)
split_once key [] b (t ∷ c) d f g e = absurd (g.0 (ap (λ (u : Timer). u.key) (sym (head-eq_of_cons-eq e))))
split_once key (t ∷ a) b [] d f g e = absurd (f.0 (ap (λ (u : Timer). u.key) (head-eq_of_cons-eq e)))
split_once key (t ∷ a) b (u ∷ c) d f g e =
    let k = split_once key a b c d f.1 g.1 (tail-eq_of_cons-eq e) in
    (ap₂ (λ (v : Timer) (l : List Timer). v ∷ l) (head-eq_of_cons-eq e) k.0, k.1, k.2)

pub pends_once : {key : ℕ} {p : List Timer} (a b : Pends key p) → (a.front ≡ b.front) × (a.deadline ≡ b.deadline) × (a.behind ≡ b.behind)
pends_once {key} a b = split_once key a.front a.behind b.front b.behind a.first b.first (sym a.is ∙ b.is)

not_free : (key x : ℕ) (a b : List Timer) → Free key (a ++ timer key x ∷ b) → ⊥
not_free key x [] b f = f.0 refl
not_free key x (t ∷ a) b f = not_free key x a b f.1

-- and is not pending and pending at once
pub free_pends : {key : ℕ} {p : List Timer} → Free key p → Pends key p → ⊥
free_pends {key} f h = not_free key h.deadline h.front h.behind (subst (λ (l : List Timer). Free key l) h.is f)

-- ---- an entry leaves one store

pub step_once : (m : ℕ) (s : Store) (e : Entry) {a b : Store} → Step m s e a → Step m s e b → a ≡ b
unfolding Step
step_once m s (E.Insert key when) p q = p.2 ∙ sym q.2
step_once m s (E.Reset key when) p q =
    let o = pends_once p.0 q.0 in
    p.1 ∙ ap₂ (λ (a b : List Timer). store (a ++ timer key (max when s.clock) ∷ b) s.clock) o.0 o.2 ∙ sym q.1
step_once m s (E.Remove key) p q =
    let o = pends_once p.0 q.0 in
    p.1 ∙ ap₂ (λ (a b : List Timer). store (a ++ b) s.clock) o.0 o.2 ∙ sym q.1
step_once m s (E.Out time key) p q =
    let o = pends_once p.0 q.0 in
    p.3 ∙ ap₂ (λ (a b : List Timer). store (a ++ b) s.clock) o.0 o.2 ∙ sym q.3
step_once m s (E.Nothing time) p q = p.1 ∙ sym q.1

-- ---- whether there is one can be told

every_told : (P : Timer → Type 0) → ((t : Timer) → Dec (P t)) → (p : List Timer) → Dec (Every P p)
every_told P f [] = yes tt
every_told P f (t ∷ p) =
    by_cases (f t) (λ (x : P t). by_cases (every_told P f p) (λ y. yes (x, y)) (λ n. no (λ z. n z.1))) (λ n. no (λ z. n z.0))

pends_told : (key : ℕ) (p : List Timer) → Free key p ⊎ Pends key p
pends_told key [] = inl tt
pends_told key (t ∷ p) =
    by_cases (ℕ_discrete t.key key)
    (λ (h : t.key ≡ key).
    inr (record { front = []; deadline = t.deadline; behind = p; is = ap (λ (k : ℕ). timer k t.deadline ∷ p) h; first = tt }))
    (λ n.
    ⊎_elim (λ (f : Free key p). inl (n, f))
    (λ (h : Pends key p).
    inr (record { front = t ∷ h.front; deadline = h.deadline; behind = h.behind; is = ap (λ (l : List Timer). t ∷ l) h.is; first = (n, h.first) }))
    (pends_told key p))

-- some store is left, or none
abbrev pub StepOrNone : ℕ → Store → Entry → Type 0
StepOrNone m s e = ((s' : Store) × Step m s e s') ⊎ ((s' : Store) → Step m s e s' → ⊥)

pub step_told : (m : ℕ) (s : Store) (e : Entry) → StepOrNone m s e
unfolding Step
step_told m s (E.Insert key when) =
    ⊎_elim
    (λ (f : Free key s.pending).
    by_cases (dec_lt (length s.pending) m) (λ h. inl (_, (f, h, refl))) (λ n. inr (λ s' p. n p.1)))
    (λ (h : Pends key s.pending). inr (λ s' p. free_pends p.0 h))
    (pends_told key s.pending)
step_told m s (E.Reset key when) =
    ⊎_elim (λ (f : Free key s.pending). inr (λ s' p. free_pends f p.0)) (λ (h : Pends key s.pending). inl (_, (h, refl)))
    (pends_told key s.pending)
step_told m s (E.Remove key) =
    ⊎_elim (λ (f : Free key s.pending). inr (λ s' p. free_pends f p.0)) (λ (h : Pends key s.pending). inl (_, (h, refl)))
    (pends_told key s.pending)
step_told m s (E.Out time key) =
    ⊎_elim (λ (f : Free key s.pending). inr (λ s' p. free_pends f p.0))
    (λ (h : Pends key s.pending).
    by_cases (dec_le h.deadline time)
    (λ l.
    by_cases (every_told (λ t. h.deadline ≤ t.deadline) (λ t. dec_le h.deadline t.deadline) s.pending) (λ v. inl (_, (h, l, v, refl)))
    (λ n. inr (λ s' p. n (subst (λ (d : ℕ). Every (λ t. d ≤ t.deadline) s.pending) (pends_once p.0 h).1 p.2))))
    (λ n. inr (λ s' p. n (subst (λ (d : ℕ). d ≤ time) (pends_once p.0 h).1 p.1))))
    (pends_told key s.pending)
step_told m s (E.Nothing time) =
    by_cases (every_told (λ t. time < t.deadline) (λ t. dec_lt time t.deadline) s.pending) (λ v. inl (_, (v, refl))) (λ n. inr (λ s' p. n p.0))
