-- the page that f is lent, and the one that it leaves
use Rattle.std.proofs.Common.{rules, refl, sym}
use Rattle.pen.proofs.Page.write_by.Goals as goal

pub returns-clause-called : goal.returns-clause-called
returns-clause-called g c =
    let given = c.into_pen-pen.ensures.same in
    record {
      lent = _;
      answer = c.f.result;
      left = c.f.new.arg2;
      called = record { shown = _; shows = refl; left = _; met = c.f.ensures; leaves = refl };
      begins = (refl, refl, refl);
      ends = rw (sym given) (c.min-self.ensures, refl);
    }
