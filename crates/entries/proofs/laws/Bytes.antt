-- Numbers and their bytes: what is written is read back, and what is read was written so.
use mathlib.Core.Path.{◌≡◌, refl, sym, ap, ap₂, ◌∙◌}
use mathlib.Core.List.{List, [], ◌∷◌}
use Prim.Native.Nat.{ℕ, zero, suc, ◌+◌, ◌*◌, ◌/◌, ◌%◌, ◌^◌}
use native.Mathlib.Omega.{arith}
use native.Mathlib.Nat.{pow-succ', div-div-eq-div-mul}
use lib.ListN.{length, take, drop}
use Rattle.writing.specs.Writing.{digits_of}
use Rattle.entries.specs.Entries.{bytes_of}
use Rattle.entries.specs.Reading.{Bytes, worth}

-- a power less
down : (x k : ℕ) → x / 256 ^ suc k ≡ x / 256 ^ k / 256
down x k =
    let e : 256 * 256 ^ k ≡ 256 ^ k * 256 = omega arith in
    ap (λ (p : ℕ). x / p) (pow-succ' 256 k ∙ e) ∙ sym (div-div-eq-div-mul x (256 ^ k) 256)

-- ---- what is written is read back

back : (k x acc : ℕ) → acc ≡ x / 256 ^ k → worth acc (bytes_of k x) ≡ x
unfolding worth digits_of
back zero x acc e = omega arith
back (suc k) x acc e = let d = e ∙ down x k in back k x (acc * 256 + x / 256 ^ k % 256) (omega arith)

pub bytes_back : (k x : ℕ) → x / 256 ^ k ≡ 0 → worth 0 (bytes_of k x) ≡ x
bytes_back k x h = back k x 0 (sym h)

-- ---- what is read was written so

forth : (l : List ℕ) (acc : ℕ) → Bytes l → (bytes_of (length l) (worth acc l) ≡ l) × (worth acc l / 256 ^ length l ≡ acc)
unfolding worth digits_of
forth [] acc h = (refl, omega arith)
forth (b ∷ l) acc h =
    let r = forth l (acc * 256 + b) h.1 in
    let w = worth (acc * 256 + b) l in
    let e : w / 256 ^ length l % 256 ≡ b = omega (arith, r.1, h.0) in
    let d = down w (length l) in
    (ap₂ (λ (x : ℕ) (m : List ℕ). x ∷ m) e r.0, omega (arith, d, r.1, h.0))

pub bytes_forth : (l : List ℕ) → Bytes l → bytes_of (length l) (worth 0 l) ≡ l
bytes_forth l h = (forth l 0 h).0

pub bytes_small : (l : List ℕ) → Bytes l → worth 0 l / 256 ^ length l ≡ 0
bytes_small l h = (forth l 0 h).1

pub bytes_take : (n : ℕ) (l : List ℕ) → Bytes l → Bytes (take n l)
bytes_take zero l h = tt
bytes_take (suc n) [] h = tt
bytes_take (suc n) (b ∷ l) h = (h.0, bytes_take n l h.1)

pub bytes_drop : (n : ℕ) (l : List ℕ) → Bytes l → Bytes (drop n l)
bytes_drop zero l h = h
bytes_drop (suc n) [] h = tt
bytes_drop (suc n) (b ∷ l) h = bytes_drop n l h.1
