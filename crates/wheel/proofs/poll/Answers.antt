-- `poll` meets its contract: what the poll says from here it says from the start with the counts so far (`next_drained`, and a law for each way
-- out).
use native.Mathlib.Omega.{arith}
use mathlib.Core.Path.{refl, sym, ap, ◌∙◌}
use Rattle.places.specs.Heads.{head_of}
use Rattle.wheel.proofs.laws.Moves.{poll_start, counts_small}
use Rattle.wheel.proofs.laws.Moves.{next_asks, next_idle, next_early, next_pops, next_out, next_can, next_parts, next_yet, next_drained}
use Rattle.wheel.proofs.poll.Goals as goal

pub loop-expiration-init : goal.loop-expiration-init
loop-expiration-init c =
    poll_start c.requires _

pub next_list-next-requires : goal.next_list-next-requires
next_list-next-requires c =
    rw c.first_parked.ensures (next_asks c.requires _ c.loop-expiration.invariant c.ranges.time.fits)

pub pop_entry-item-requires : goal.pop_entry-item-requires
pop_entry-item-requires c =
    next_pops c.requires _ c.loop-expiration.invariant c.first_parked.ensures c.next_list-next.ensures _ c.in-Some.is c.if-level-eq0.true

pub poll_expiration-left-requires : goal.poll_expiration-left-requires
poll_expiration-left-requires c =
    next_can c.requires _ c.loop-expiration.invariant c.first_parked.ensures c.next_list-next.ensures
    _ c.in-Some.is c.if-level-eq0.false c.if-time-deadline.false

pub overflow_sub-moves : goal.overflow_sub-moves
overflow_sub-moves c =
    omega (arith, c.poll_expiration-left.ensures.within, c.loop-expiration.invariant.within)

pub list_head-requires : goal.list_head-requires
list_head-requires c =
    next_parts c.requires _ c.loop-expiration.invariant c.first_parked.ensures c.next_list-next.ensures
    _ c.in-Some.is c.if-level-eq0.false c.if-time-deadline.false

pub list_place-place-requires : goal.list_place-place-requires
list_place-place-requires c =
    next_parts c.requires _ c.loop-expiration.invariant c.first_parked.ensures c.next_list-next.ensures
    _ c.in-Some.is c.if-level-eq0.false c.if-time-deadline.false

pub overflow_add-drains : goal.overflow_add-drains
overflow_add-drains c =
    omega (arith, counts_small c.requires _ c.loop-expiration.invariant)

pub loop-expiration-smaller : goal.loop-expiration-smaller
loop-expiration-smaller c =
    (next_drained c.requires _ c.loop-expiration.invariant c.first_parked.ensures c.next_list-next.ensures
    _ c.in-Some.is c.if-level-eq0.false c.if-time-deadline.false
    _ c.poll_expiration-left.ensures _ refl _ refl (sym c.list_head.ensures ∙ c.if-list_head.false)).1

pub loop-expiration-preserved : goal.loop-expiration-preserved
loop-expiration-preserved c =
    (next_drained c.requires _ c.loop-expiration.invariant c.first_parked.ensures c.next_list-next.ensures
    _ c.in-Some.is c.if-level-eq0.false c.if-time-deadline.false
    _ c.poll_expiration-left.ensures _ refl _ refl (sym c.list_head.ensures ∙ c.if-list_head.false)).0

pub returns-in_default : goal.returns-in_default
returns-in_default c =
    next_idle c.requires _ c.loop-expiration.invariant c.first_parked.ensures c.next_list-next.ensures c.in_default.is

pub returns-then-time-deadline : goal.returns-then-time-deadline
returns-then-time-deadline c =
    next_early c.requires _ c.loop-expiration.invariant c.first_parked.ensures c.next_list-next.ensures _ c.in-Some.is c.if-time-deadline.true

pub returns-then-level-eq0 : goal.returns-then-level-eq0
returns-then-level-eq0 c =
    next_out c.requires _ c.loop-expiration.invariant c.first_parked.ensures c.next_list-next.ensures
    _ c.in-Some.is c.if-level-eq0.true c.if-time-deadline.false
    _ c.pop_entry-item.ensures

pub returns-then-list_head : goal.returns-then-list_head
returns-then-list_head c =
    next_yet c.requires _ c.loop-expiration.invariant c.first_parked.ensures c.next_list-next.ensures
    _ c.in-Some.is c.if-level-eq0.false c.if-time-deadline.false
    _ c.poll_expiration-left.ensures _ refl _ c.list_place-place.ensures
    (λ z. c.if-list_head.true (c.list_head.ensures ∙ ap (head_of _ _) (sym c.list_place-place.ensures) ∙ z))
