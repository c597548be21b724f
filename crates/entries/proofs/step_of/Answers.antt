-- `step_of`: by the kind (`step_kind`); kind 10 alone is no step (`no_step`).
use mathlib.Core.Path.{◌∙◌}
use native.Mathlib.Omega.{arith}
use Rattle.entries.specs.Reading.{step_of}
use Rattle.entries.proofs.laws.Reading.{step_kind, step_nine, no_step}
use Rattle.entries.proofs.step_of.Goals as goal

pub returns-in-1 : goal.returns-in-1
unfolding step_of
returns-in-1 c =
    step_kind _ _ 1 c.in-1.is

pub returns-in-2 : goal.returns-in-2
unfolding step_of
returns-in-2 c =
    step_kind _ _ 2 c.in-2.is

pub returns-in-3 : goal.returns-in-3
unfolding step_of
returns-in-3 c =
    step_kind _ _ 3 c.in-3.is

pub returns-in-4 : goal.returns-in-4
unfolding step_of
returns-in-4 c =
    step_kind _ _ 4 c.in-4.is

pub returns-in-5 : goal.returns-in-5
unfolding step_of
returns-in-5 c =
    step_kind _ _ 5 c.in-5.is

pub returns-in-6 : goal.returns-in-6
unfolding step_of
returns-in-6 c =
    step_kind _ _ 6 c.in-6.is

pub returns-in-7 : goal.returns-in-7
unfolding step_of
returns-in-7 c =
    step_kind _ _ 7 c.in-7.is

pub returns-in-8 : goal.returns-in-8
unfolding step_of
returns-in-8 c =
    step_kind _ _ 8 c.in-8.is

pub returns-in-9 : goal.returns-in-9
returns-in-9 c =
    c.repeats.ensures ∙ step_nine _ _ c.in-9.is

pub returns-in-11 : goal.returns-in-11
unfolding step_of
returns-in-11 c =
    step_kind _ _ 11 c.in-11.is

pub returns-in_default : goal.returns-in_default
returns-in_default c =
    no_step _ _ (omega arith) (omega arith) (omega arith) (omega arith) (omega arith) (omega arith) (omega arith) (omega arith) (omega arith) (omega arith)
