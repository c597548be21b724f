-- `numbers` reads the first number (`first_of`), the second and the third: `more` has the numbers behind each.
use mathlib.Core.Path.{refl}
use native.Mathlib.Omega.{arith}
use Rattle.std.specs.Prelude.{Some, None}
use Rattle.asking.specs.declared.Fields.TheVariants as F
use Rattle.splitting.proofs.laws.Fields.{the_one}
use Rattle.asking.proofs.laws.Reading.{none_at_all, too_many, more}
use Rattle.asking.proofs.numbers.Goals as goal

pub returns-in_err-a : goal.returns-in_err-a
returns-in_err-a c =
    rw c.from_residual.ensures (none_at_all 3 _ c.in_err-a.ensures)

pub returns-in-Only : goal.returns-in-Only
returns-in-Only c =
    the_one (rw c.in-Only.is at c.in_ok-a.ensures)

pub returns-in_err-b : goal.returns-in_err-b
returns-in_err-b c =
    let first = (rw c.in-Then.is at c.in_ok-a.ensures).1 in
    rw c.from_residual-in_err-b.ensures (more 2 c.in-Then.f first (omega arith) None None (none_at_all 2 _ c.in_err-b.ensures) refl)

pub returns-in-Only-2 : goal.returns-in-Only-2
returns-in-Only-2 c =
    let first = (rw c.in-Then.is at c.in_ok-a.ensures).1 in
    more 2 c.in-Then.f first (omega arith) (Some (F.One c.in-Only-2.b)) (Some (F.Two c.in-Then.a c.in-Only-2.b)) (the_one (rw c.in-Only-2.is at c.in_ok-b.ensures)) refl

pub returns-in_err-c : goal.returns-in_err-c
returns-in_err-c c =
    let first = (rw c.in-Then.is at c.in_ok-a.ensures).1 in
    let second = (rw c.in-Then-2.is at c.in_ok-b.ensures).1 in
    let behind = more 1 c.in-Then-2.f second (omega arith) None None (none_at_all 1 _ c.in_err-c.ensures) refl in
    rw c.from_residual-in_err-c.ensures (more 2 c.in-Then.f first (omega arith) None None behind refl)

pub returns-in-Only-3 : goal.returns-in-Only-3
returns-in-Only-3 c =
    let first = (rw c.in-Then.is at c.in_ok-a.ensures).1 in
    let second = (rw c.in-Then-2.is at c.in_ok-b.ensures).1 in
    let two = Some (F.Two c.in-Then-2.b c.in-Only-3.c) in
    let behind = more 1 c.in-Then-2.f second (omega arith) (Some (F.One c.in-Only-3.c)) two (the_one (rw c.in-Only-3.is at c.in_ok-c.ensures)) refl in
    more 2 c.in-Then.f first (omega arith) two (Some (F.Three c.in-Then.a c.in-Then-2.b c.in-Only-3.c)) behind refl

pub returns-in-Then-3 : goal.returns-in-Then-3
returns-in-Then-3 c =
    let first = (rw c.in-Then.is at c.in_ok-a.ensures).1 in
    let second = (rw c.in-Then-2.is at c.in_ok-b.ensures).1 in
    let third = (rw c.in-Then-3.is at c.in_ok-c.ensures).1 in
    let behind = more 1 c.in-Then-2.f second (omega arith) None None (too_many third 1 (omega arith)) refl in
    more 2 c.in-Then.f first (omega arith) None None behind refl
