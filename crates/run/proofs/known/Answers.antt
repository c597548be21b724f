-- `known`: on a sound store the call is made (`knows_sound`), on another it is refused, which the check finds by itself, unless it is a format (`knows_format`).
use Rattle.run.proofs.laws.Known.{knows_sound, knows_format}
use Rattle.run.proofs.known.Goals as goal

pub on_sound-out-requires : goal.on_sound-out-requires
on_sound-out-requires c =
    c.requires.yes c.if-sound.true

pub returns-then-sound : goal.returns-then-sound
returns-then-sound c =
    knows_sound c.args.call (c.requires.yes c.if-sound.true) c.on_sound-out.ensures

pub returns : goal.returns
returns c =
    knows_format (c.requires.no c.if-sound.false) c.in-Format.is c.formats-out.ensures c.accepted-taken.ensures
