-- What waits in a page's room.
use Rattle.std.specs.Prelude.{◌≡◌, ◌≤◌, ◌+◌, ℕ, List, ◌++◌, length, take, drop, IsTrue, Result, min, ◌&&◌}
use Rattle.std.specs.declared.fmt.Error.{Error}
use Rattle.pen.specs.declared.Page.{Page}

-- the bytes that wait
abbrev pub waiting : Page → List ℕ
waiting p = take p.pen.at p.out.now

-- p becomes q over the same room, and that a write failed is not forgotten
pub record SameRoom (p q : Page) : Type 0 where
  pub same_room : q.out.ghost_name ≡ p.out.ghost_name
  pub same_size : length q.out.now ≡ length p.out.now
  pub failed : IsTrue q.pen.fine → IsTrue p.pen.fine

-- p becomes q by the text s. Of what waited and s together the first bytes are written, and the rest waits in the same room: all of it, if
-- the room has space for that.
pub record Wrote (p : Page) (s : List ℕ) (q : Page) : Type 0 where
  pub same : SameRoom p q
  pub written : ℕ
  pub few : written ≤ length (waiting p ++ s)
  pub waits : waiting q ≡ drop written (waiting p ++ s)
  pub fits : p.pen.at + length s ≤ length p.out.now → written ≡ 0

-- p becomes q by a call that got a page with the same pen and the same bytes: q has the place where the call left that pen, and knows of
-- the writes that failed. A call may leave a page over another room, so which bytes wait is not said.
pub record WrittenBy (call : Page → Result (Unit {0}) Error → Page → Type 0) (p q : Page) : Type 0 where
  pub lent : Page
  pub answer : Result (Unit {0}) Error
  pub left : Page
  pub called : call lent answer left
  pub begins : (lent.out.now ≡ p.out.now) × (lent.pen.at ≡ p.pen.at) × (lent.pen.fine ≡ p.pen.fine)
  pub ends : (q.pen.at ≡ min left.pen.at (length q.out.now)) × (q.pen.fine ≡ p.pen.fine && left.pen.fine)
