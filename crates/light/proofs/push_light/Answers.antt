-- word, smoothed, space, worst and newline are written, one behind the other (`line_wrote`)
use Rattle.std.proofs.Common.{arith}
use Rattle.writing.proofs.laws.Writing.{digits_length}
use Rattle.light.specs.Light.{digit_of}
use Rattle.light.proofs.laws.Writing.{word_length, line_wrote}
use Rattle.light.proofs.push_light.Goals as goal

pub push-c-requires : goal.push-c-requires
push-c-requires c = omega (arith, word_length c.args.light, digits_length digit_of 16 16 c.args.smoothed)

pub push_hex-d-requires : goal.push_hex-d-requires
push_hex-d-requires c = omega (arith, word_length c.args.light, digits_length digit_of 16 16 c.args.smoothed)

pub push-requires : goal.push-requires
push-requires c =
    omega (arith, word_length c.args.light, digits_length digit_of 16 16 c.args.smoothed, digits_length digit_of 16 16 c.args.worst)

pub returns : goal.returns
returns c = line_wrote _ _ _ c.push_word-a.ensures c.push_hex-b.ensures c.push-c.ensures c.push_hex-d.ensures c.push.ensures
