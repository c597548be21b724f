-- What the parts of the inspector find. No public claim cites this file.
use Rattle.std.specs.Prelude.{◌≡◌, ◌↔◌, List, [], ◌∷◌, ◌++◌, ℕ, ◌≤◌, ◌<◌, length, get_or, Option, Some, None}
use Rattle.decimals.specs.Text.{bytes, Decimal, Spaced}
use Rattle.splitting.specs.Letters.{with_letter}
use Rattle.inspector.specs.declared.Entry.{Entry}
use Rattle.inspector.specs.declared.Entry.TheVariants as E
use Rattle.inspector.specs.declared.Fields.{Fields}
use Rattle.inspector.specs.declared.Fields.TheVariants as F
use Rattle.inspector.specs.declared.Pending.{Pending}
use Rattle.inspector.specs.Text.{letter, Says}
use Rattle.inspector.specs.Log.{Store, Step}
use Rattle.inspector.specs.Words.{held, keys_of, deadlines_of, over}

-- ---- reading

-- a number, and behind it a dash
abbrev pub Dashed : List ℕ → ℕ → Type 0
Dashed l x = (rest : List ℕ) × (l ≡ rest ++ bytes " -") × Spaced rest (x ∷ [])

-- what stands behind a line's letter
abbrev pub Holds : List ℕ → Option Fields → Type 0
Holds l (Some (F.One x)) = Spaced l (x ∷ [])
Holds l (Some (F.Two x y)) = Spaced l (x ∷ y ∷ [])
Holds l (Some (F.Dash x)) = Dashed l x
Holds l None = ((x : ℕ) → Spaced l (x ∷ []) → ⊥) × ((x y : ℕ) → Spaced l (x ∷ y ∷ []) → ⊥) × ((x : ℕ) → Dashed l x → ⊥)

-- what stands behind the first number a and the space behind it
abbrev pub Second : ℕ → List ℕ → Option Fields → Type 0
Second a l (Some (F.One x)) = ⊥
Second a l (Some (F.Two x y)) = (x ≡ a) × Decimal l y
Second a l (Some (F.Dash x)) = (x ≡ a) × (l ≡ bytes "-")
Second a l None = ((y : ℕ) → Decimal l y → ⊥) × (l ≡ bytes "-" → ⊥)

-- the fields of an entry
abbrev pub fields_of : Entry → Option Fields
fields_of (E.Insert key when) = Some (F.Two key when)
fields_of (E.Reset key when) = Some (F.Two key when)
fields_of (E.Remove key) = Some (F.One key)
fields_of (E.Out time key) = Some (F.Two time key)
fields_of (E.Nothing time) = Some (F.Dash time)

-- the entries with these fields, and the one of them with a letter
abbrev pub entries : Option Fields → List Entry
entries (Some (F.One x)) = E.Remove x ∷ []
entries (Some (F.Two x y)) = E.Insert x y ∷ E.Reset x y ∷ E.Out x y ∷ []
entries (Some (F.Dash x)) = E.Nothing x ∷ []
entries None = []

unfoldable pub entry_of : ℕ → Option Fields → Option Entry
entry_of b f = with_letter letter b (entries f)

-- r is what is to be read in the line l
pub record ReadClaim (l : List ℕ) (r : Option Entry) : Type 0 where
  pub says : (e : Entry) → (r ≡ Some e) ↔ Says l e
  pub bad : (r ≡ None) ↔ ((e : Entry) → Says l e → ⊥)

-- ---- what is pending

-- the first place of key among the first n of ks, or n
pub record PlaceOf (ks : List ℕ) (n key r : ℕ) : Type 0 where
  pub within : r ≤ n
  pub passed : (i : ℕ) → i < r → get_or ks i 0 ≡ key → ⊥
  pub found : r < n → get_or ks r 0 ≡ key

-- each of the first n deadlines is past t
abbrev pub NoneDue : List ℕ → ℕ → ℕ → Type 0
NoneDue ds n t = (i : ℕ) → i < n → t < get_or ds i 0

-- and is d or later
abbrev pub NoneBefore : List ℕ → ℕ → ℕ → Type 0
NoneBefore ds n d = (i : ℕ) → i < n → d ≤ get_or ds i 0

-- the place of key among the first n of ks, if it is there
abbrev pub Placed : List ℕ → ℕ → ℕ → Option ℕ → Type 0
Placed ks n key (Some r) = (r < n) × PlaceOf ks n key r
Placed ks n key None = PlaceOf ks n key n

-- n of room are pending
pub record Within (n room : ℕ) (ks ds : List ℕ) : Type 0 where
  pub few : n ≤ room
  pub keys : room ≤ length ks
  pub deadlines : room ≤ length ds

-- ---- an entry is taken

abbrev pub pending : ℕ → ℕ → ℕ → Pending
pending n room clock = record { count = n; room = room; clock = clock }

-- what comes of the words
pub record TakeClaim (n room clock : ℕ) (ks ds : List ℕ) (e : Entry) (r : Option Pending) (ks' ds' : List ℕ) : Type 0 where
  pub step : (s : Store) → Step room (held n clock ks ds) e s
      → (r ≡ Some (pending (length s.pending) room s.clock)) × (ks' ≡ over (keys_of s.pending) ks) × (ds' ≡ over (deadlines_of s.pending) ds)
  pub none : ((s : Store) → Step room (held n clock ks ds) e s → ⊥) → (r ≡ None) × (ks' ≡ ks) × (ds' ≡ ds)

-- the same of what the code holds
abbrev pub Inside : Pending → List ℕ → List ℕ → Type 0
Inside p ks ds = Within p.count p.room ks ds

abbrev pub Takes : Pending → List ℕ → List ℕ → Entry → Option Pending → List ℕ → List ℕ → Type 0
Takes p ks ds e r ks' ds' = TakeClaim p.count p.room p.clock ks ds e r ks' ds'
