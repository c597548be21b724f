-- The run that shows that a due timer comes out.
use Rattle.std.specs.Prelude.{List, [], ◌∷◌}
use Rattle.queue.specs.declared.Answer.TheVariants as A
use Rattle.delay_queue.specs.declared.Call.TheVariants as C
use Rattle.promises.specs.Runs.{Asked}

-- ---- what `waiting_bounded` and `due_comes_out` ask

abbrev pub polled_at70 : List Asked
polled_at70 = record { call = C.Poll 70; answer = A.Out 65536 7 70 1 1 } ∷ []

-- 02 [10]: the same with a pause
abbrev pub paused_at70 : List Asked
paused_at70 = record { call = C.PollSome 70 0; answer = A.NotYet 0 0 } ∷ polled_at70
