-- what the lines have said is written: `bad` (`text_bad`) or the line of the light (`text_room`), if there is room for it (`text_full`)
use Rattle.std.proofs.Common.{arith, ◌≡◌, ℕ, refl}
use Rattle.gauge.specs.declared.Gauge.{Gauge}
use Rattle.light.specs.declared.State.{State}
use Rattle.light.specs.declared.State.TheVariants as S
use Rattle.light.specs.Light.{bad}
use Rattle.light.specs.Writing.{text_of}
use Rattle.light.proofs.laws.Text.{text_bad, no_number, text_full, text_room}
use Rattle.light.proofs.text.Goals as goal

-- a state without both limits
other : (t : State) → ((s l : ℕ) (g : Gauge) → t ≡ S.Both s l g → ⊥) → bad ≡ text_of t
other S.Nothing x = refl
other (S.Slow s) x = refl
other (S.Both s l g) x = absurd (x s l g refl)
other S.Bad x = refl

pub returns-in_default : goal.returns-in_default
returns-in_default c = text_bad c.args.state (other c.args.state c.in_default.not-Both) c.write_bad.ensures

pub returns-in_default-read : goal.returns-in_default-read
returns-in_default-read c =
    no_number _ _ _ c.in-Both.is c.float_of.ensures c.float_of-2.ensures c.read.ensures c.in_default-read.is

pub returns-then-out-lt39 : goal.returns-then-out-lt39
returns-then-out-lt39 c = text_full _ _ _ c.in-Both.is c.float_of.ensures c.float_of-2.ensures c.read.ensures c.if-out-lt39.true

pub returns : goal.returns
returns c =
    text_room _ _ _ c.in-Both.is c.float_of.ensures c.float_of-2.ensures c.read.ensures _ c.in-Ok.is c.bits_of.ensures c.bits_of-2.ensures
    c.push_light.ensures
    (omega arith)
