-- where the room was full, all that waited is written (`all_written`), and the byte lies at its front (`front_alone`)
use Rattle.std.proofs.Common.{rules, arith, sym, ◌∙◌, length, ◌<◌, ◌∷◌, []}
use Rattle.pen.proofs.Texts.{all_written, front_alone}
use Rattle.pen.proofs.Page.byte.Goals as goal

pub returns : goal.returns
returns c =
    let p = c.args.self.now in
    let some : 0 < length p.out.now = search (rules, c.if-is_empty.ensures) in
    record {
      same = search rules;
      written = p.pen.at;
      few = omega (arith, (all_written p c.args.b).0);
      waits = front_alone _ c.args.b (omega (arith, some)) ∙ sym (all_written p c.args.b).1;
      fits = λ h. omega (arith, h, c.if-at-self.false);
    }
