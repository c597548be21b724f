-- What the parts of the reader find. No public claim cites this file.
use Rattle.std.specs.Prelude.{List, [], ◌∷◌, ℕ, ◌<◌, length, Option, Some, None}
use Rattle.delay_queue.specs.declared.Call.{Call}
use Rattle.delay_queue.specs.declared.Call.TheVariants as C
use Rattle.asking.specs.declared.Fields.{Fields}
use Rattle.asking.specs.declared.Fields.TheVariants as F
use Rattle.decimals.specs.Text.{Spaced}
use Rattle.splitting.specs.Letters.{with_letter}
use Rattle.asking.specs.Text.{letter}

-- what l holds as numbers with one space in front of each, of which no more than k are looked for
abbrev pub Holds : ℕ → List ℕ → Option Fields → Type 0
Holds k l (Some F.Empty) = Spaced l []
Holds k l (Some (F.One x)) = Spaced l (x ∷ [])
Holds k l (Some (F.Two x y)) = Spaced l (x ∷ y ∷ [])
Holds k l (Some (F.Three x y z)) = Spaced l (x ∷ y ∷ z ∷ [])
Holds k l None = (ns : List ℕ) → Spaced l ns → k < length ns

-- a number more
abbrev pub in_front : ℕ → Option Fields → Option Fields
in_front n (Some F.Empty) = None
in_front n (Some (F.One x)) = Some (F.Two n x)
in_front n (Some (F.Two x y)) = Some (F.Three n x y)
in_front n (Some (F.Three x y z)) = None
in_front n None = None

-- numbers that are known; where there are more than three, they are no call's
abbrev pub fields_of : List ℕ → Option Fields
fields_of [] = Some F.Empty
fields_of (x ∷ []) = Some (F.One x)
fields_of (x ∷ y ∷ []) = Some (F.Two x y)
fields_of (x ∷ y ∷ z ∷ []) = Some (F.Three x y z)
fields_of (x ∷ y ∷ z ∷ w ∷ ns) = None

-- ---- the call of a letter and numbers: among the calls with these numbers, the first with that letter

abbrev pub calls : Option Fields → List Call
calls (Some F.Empty) = C.Wake ∷ C.Length ∷ C.Clear ∷ []
calls (Some (F.One x)) = C.Remove x ∷ C.Poll x ∷ []
calls (Some (F.Two x y)) = C.Format x y ∷ C.Reset x y ∷ C.PollSome x y ∷ []
calls (Some (F.Three x y z)) = C.Insert x y z ∷ []
calls None = []

unfoldable pub call_of : ℕ → Option Fields → Option Call
call_of b f = with_letter letter b (calls f)
