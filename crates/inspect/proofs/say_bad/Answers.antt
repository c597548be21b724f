-- `say_bad` writes the digits that `io::decimal` leaves, which are the decimal (`decimal_text`), where there is room (`bad_room`, `bad_full`).
use mathlib.Core.Path.{◌≡◌, sym, subst}
use mathlib.Core.List.{List}
use Prim.Native.Nat.{ℕ, ◌^◌, ◌<◌}
use native.Mathlib.Omega.{arith}
use lib.ListN.{take}
use Rattle.io.specs.Digits.{last_digits, IsDigitCount}
use Rattle.decimals.specs.Text.{Decimal}
use Rattle.inspect.proofs.laws.Writing.{digits_decimal, bad_full, bad_room}
use Rattle.inspect.proofs.say_bad.Goals as goal

-- the digits
decimal_text : {n k : ℕ} (out : List ℕ) → n < 2 ^ 64 → IsDigitCount 10 1 n k → take k out ≡ last_digits 10 k n → Decimal (take k out) n
decimal_text {n} {k} out f h e = subst (λ (l : List ℕ). Decimal l n) (sym e) (digits_decimal n k f h)

pub returns-then-out-k : goal.returns-then-out-k
returns-then-out-k c =
    let e = c.decimal-k.ensures in
    bad_full _ (decimal_text _ c.ranges.n.fits e.len e.digits) (omega (arith, c.if-out-k.true, e.in_bounds.1))

pub returns : goal.returns
returns c =
    let e = c.decimal-k.ensures in
    bad_room _ (decimal_text _ c.ranges.n.fits e.len e.digits) (omega (arith, c.if-out-k.false, e.in_bounds.1)) c.push-a.ensures c.push-b.ensures c.push.ensures
