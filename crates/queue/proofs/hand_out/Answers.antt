-- `hand_out` meets its contract: the answer is read before the record is freed (`out_done`, `out_last`) or placed again (`out_again`).
use native.Mathlib.Omega.{arith}
use mathlib.Core.Path.{sym, ◌∙◌}
use Rattle.records.proofs.laws.Again.{again_at, again_never}
use Rattle.queue.proofs.laws.Polls.{out_words, out_frees, out_places, out_done, out_again, out_last}
use Rattle.queue.proofs.hand_out.Goals as goal

pub key_of-key-requires : goal.key_of-key-requires
key_of-key-requires c =
    (out_words c.requires.sound_but c.requires.loose_at).3

pub value_of-value-requires : goal.value_of-value-requires
value_of-value-requires c =
    omega (arith, (out_words c.requires.sound_but c.requires.loose_at).0)

pub period_of-period-requires : goal.period_of-period-requires
period_of-period-requires c =
    (out_words c.requires.sound_but c.requires.loose_at).0

pub leave-requires : goal.leave-requires
leave-requires c =
    out_frees c.requires.sound_but c.requires.loose_at

pub returns-then-period-eq0 : goal.returns-then-period-eq0
returns-then-period-eq0 c =
    rw c.value_of-value.ensures
    (out_done c.requires.sound_but c.requires.loose_at _ _ c.key_of-key.ensures (sym c.period_of-period.ensures ∙ c.if-period-eq0.true)
    c.leave.ensures)

pub leave-requires-in_default : goal.leave-requires-in_default
leave-requires-in_default c =
    out_frees c.requires.sound_but c.requires.loose_at

pub returns-in_default : goal.returns-in_default
returns-in_default c =
    rw c.value_of-value.ensures
    (out_last c.requires.sound_but c.requires.loose_at _ _ c.key_of-key.ensures (λ z. c.if-period-eq0.false (c.period_of-period.ensures ∙ z))
    (again_never _ c.period_of-period.ensures c.next_time-next.ensures c.in_default.is)
    c.leave-in_default.ensures)

pub place-requires : goal.place-requires
place-requires c =
    out_places c.requires.sound_but c.requires.loose_at
    (again_at _ c.period_of-period.ensures c.next_time-next.ensures _ c.in-Some.is)

pub returns : goal.returns
returns c =
    rw c.value_of-value.ensures
    (out_again c.requires.sound_but c.requires.loose_at _ _ c.key_of-key.ensures (λ z. c.if-period-eq0.false (c.period_of-period.ensures ∙ z))
    (again_at _ c.period_of-period.ensures c.next_time-next.ensures _ c.in-Some.is)
    c.place.ensures)
