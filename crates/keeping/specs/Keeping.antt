-- What can be said of a file that is written: how much of it is kept.
use Rattle.std.specs.Prelude.{◌≡◌, Bool, true, false, ℕ, ◌+◌}

-- up to `before` a file was kept, and n bytes more were to be: now it is kept up to `after`, all of them, or none where it failed
pub record KeepsFile (before n : ℕ) (fine : Bool) (after : ℕ) : Type 0 where
  pub all : fine ≡ true → after ≡ before + n
  pub none : fine ≡ false → after ≡ before
