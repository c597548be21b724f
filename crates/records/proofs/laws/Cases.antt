-- The cases of the table, none left out: a deadline is too old, too far, or taken; a key names a record or it does not.
use mathlib.Core.Path.{refl}
use mathlib.Core.Logic.{by_cases}
use Prim.Native.Nat.{ℕ, ◌+◌, ◌-◌, ◌≤◌}
use native.Mathlib.Decide.{ℕ_discrete, dec_lt}
use native.Mathlib.Omega.{arith}
use Rattle.times.specs.Times.{max_duration}
use Rattle.links.specs.Links.{at}
use Rattle.places.specs.Places.{free}
use Rattle.records.specs.Records.{turn_in, number_in, Names, TooFar, Near, TooOld, Takes}
use Rattle.records.specs.Words.{QueueWords, count, mark_of, view, Sound}
use Rattle.records.proofs.laws.Found.{key_names, names_key, find_turn}

pub by_ahead : {P : Type 0} (e w : ℕ) → (TooFar e w → P) → (Near e w → P) → P
by_ahead e w f h =
    by_cases (dec_lt max_duration (w - e))
    (λ k. f (omega (arith, k), k))
    (λ k. h (λ l. omega (arith, k)))

pub by_deadline : {P : Type 0} (e w : ℕ) → (TooOld e w → P) → (TooFar e w → P) → (Takes e w → P) → P
by_deadline e w o f h =
    by_cases (dec_lt (w + 3600000) e)
    o
    (λ r. by_ahead e w f (λ n. h (record { recent = r; near = n })))

-- a deadline that is taken
pub takes_so : {e w : ℕ} → e ≤ w + 3600000 → Near e w → Takes e w
takes_so h n = record { recent = λ o. omega (arith, h, o); near = n }

pub by_key : {P : Type 0} {s : QueueWords} → Sound s → (key : ℕ) → ((r p : ℕ) → Names (view s) key r p → P)
    → (((r p : ℕ) → Names (view s) key r p → ⊥) → P) → P
by_key {P} {s} S key f g =
    let i : ℕ = number_in key in
    by_cases (dec_lt i (count s))
    (λ b.
    by_cases (dec_lt (mark_of s i) free)
    (λ m.
    by_cases (ℕ_discrete (at s.turns i) (turn_in key))
    (λ t. f i (mark_of s i) (key_names S key (record { number = refl; below = b; pending = m; turn = t })))
    (λ d. g (λ r p N. find_turn refl refl d r (names_key S key N))))
    (λ m. g (λ r p N. m (rw (← N.number) (names_key S key N).pending))))
    (λ b. g (λ r p N. b (omega (arith, N.number, N.below))))
