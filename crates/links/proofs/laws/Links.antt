-- Two words of the links are equal by their parts; what the functions make of them, store by store.
use mathlib.Core.Path.{◌≡◌, refl, ap, ◌∙◌}
use mathlib.Core.List.{List}
use mathlib.Core.Bool.{cond}
use Prim.Native.Nat.{ℕ}
use lib.ListN.{set}
use lib.Dec.{eqb}
use Rattle.links.specs.Lists.{nobody}
use Rattle.links.specs.Family.{tail_or, head_left, link_past, back_past}
use Rattle.links.specs.Links.{Links, links, at, set_n, between, joined, added, cut_out, Inside, CanCut}

-- two are equal by their parts
pub links_eq : {b c d b' c' d' : List ℕ} → b ≡ b' → c ≡ c' → d ≡ d' → links b c d ≡ links b' c' d'
links_eq q r s = λ i. record { nexts = q i; prevs = r i; marks = s i }

-- ---- store by store

pub between_is : (ps : List ℕ) (i h tail : ℕ) {ps' : List ℕ} → tail ≡ tail_or i (at ps) h → ps' ≡ set_n (set ps i tail) h i
    → ps' ≡ between ps i h
unfolding between
between_is ps i h tail e f = f ∙ ap (λ v. set_n (set ps i v) h i) e

pub join_is : (s : Links) (p i h : ℕ) {ps ms : List ℕ} → ps ≡ between s.prevs i h → ms ≡ set s.marks i p
    → links (set s.nexts i h) ps ms ≡ joined s p i h
unfolding joined
join_is s p i h e f = links_eq refl e f

pub add_is : (s : Links) (p i h last : ℕ) {ns ps ms : List ℕ} → last ≡ tail_or nobody (at s.prevs) h → ns ≡ set_n s.nexts last i
    → ps ≡ between s.prevs i h → ms ≡ set s.marks i p → links ns ps ms ≡ added s p i h
unfolding added
add_is s p i h last e f g k = links_eq (f ∙ ap (λ v. set_n s.nexts v i) e) g k

-- whose back link follows, as the code finds it by the new head
back_is : (s : Links) (i h : ℕ) {head a : ℕ} → head ≡ head_left (at s.nexts) i h
    → a ≡ cond (eqb (at s.nexts i) nobody) head (at s.nexts i) → a ≡ back_past (at s.nexts) i h
back_is s i h e f = f ∙ ap (λ v. cond (eqb (at s.nexts i) nobody) v (at s.nexts i)) e

pub cut_asks : {s : Links} {i h : ℕ} → CanCut s i h → {head a : ℕ} → head ≡ head_left (at s.nexts) i h
    → a ≡ cond (eqb (at s.nexts i) nobody) head (at s.nexts i) → Inside a s.prevs
cut_asks {s} {i} {h} C e f = rw (back_is s i h e f) C.back

pub cut_is : (s : Links) (i h : ℕ) {head b a : ℕ} {ns ps : List ℕ} → head ≡ head_left (at s.nexts) i h → b ≡ link_past (at s.prevs) i h
    → a ≡ cond (eqb (at s.nexts i) nobody) head (at s.nexts i)
    → ns ≡ set_n s.nexts b (at s.nexts i) → ps ≡ set_n s.prevs a (at s.prevs i)
    → links (set ns i nobody) (set ps i nobody) (set s.marks i nobody) ≡ cut_out s i h
unfolding cut_out
cut_is s i h e f g k m =
    links_eq
    (ap (λ (l : List ℕ). set l i nobody) (k ∙ ap (λ v. set_n s.nexts v (at s.nexts i)) f))
    (ap (λ (l : List ℕ). set l i nobody) (m ∙ ap (λ v. set_n s.prevs v (at s.prevs i)) (back_is s i h e g)))
    refl
