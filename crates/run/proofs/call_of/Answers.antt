-- `call_of` finds the call by its kind (`is_format_lem` ..), or none.
use Rattle.run.proofs.laws.Groups.{is_format_lem, is_insert, is_reset, is_remove, is_poll_lem, is_clear, is_some, is_wake, is_length}
use Rattle.run.proofs.call_of.Goals as goal

pub returns-in-1 : goal.returns-in-1
returns-in-1 c =
    is_format_lem c.in-1.is c.if_blank.ensures

pub returns-in-2 : goal.returns-in-2
returns-in-2 c =
    is_insert c.in-2.is c.if_blank-in-2.ensures

pub returns-in-3 : goal.returns-in-3
returns-in-3 c =
    is_reset c.in-3.is c.if_blank-in-3.ensures

pub returns-in-4 : goal.returns-in-4
returns-in-4 c =
    is_remove c.in-4.is c.if_blank-in-4.ensures

pub returns-in-5 : goal.returns-in-5
returns-in-5 c =
    is_poll_lem c.in-5.is c.if_blank-in-5.ensures

pub returns-in-6 : goal.returns-in-6
returns-in-6 c =
    is_clear c.in-6.is c.if_blank-in-6.ensures

pub returns-in-11 : goal.returns-in-11
returns-in-11 c =
    is_some c.in-11.is c.if_blank-in-11.ensures

pub returns-in-12 : goal.returns-in-12
returns-in-12 c =
    is_wake c.in-12.is c.if_blank-in-12.ensures

pub returns-in-13 : goal.returns-in-13
returns-in-13 c =
    is_length c.in-13.is c.if_blank-in-13.ensures
