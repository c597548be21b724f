-- Runs of any calls from any store, each answered as its claim says: refused calls, clear and format again among them.
use mathlib.Core.Path.{◌≡◌, refl, ap}
use mathlib.Core.List.{List, [], ◌∷◌, map}
use Rattle.records.specs.Words.{QueueWords, Sound}
use Rattle.delay_queue.specs.declared.Call.{Call}
use Rattle.promises.proofs.laws.OneCall.{call_sound, call_met}
use Rattle.promises.specs.Runs.{Asked, Runs, next, rest}

-- "Every call on a sound store leaves a sound one": so does a run
pub run_sound : {s t : QueueWords} {l : List Asked} → Sound s → Runs s l t → Sound t
run_sound S rest = S
run_sound S (next {s} {t} {x = x} c r) = run_sound (call_sound x.call s x.answer t c S) r

-- whatever is called, on whatever is lent, there is such a run
pub run_met : (s : QueueWords) (cs : List Call) → (l : List Asked) × (u : QueueWords) × (map (λ x. x.call) l ≡ cs) × Runs s l u
run_met s [] = ([], s, refl, rest)
run_met s (c ∷ cs) =
    let m = call_met c s in
    let r = run_met m.1 cs in
    (record { call = c; answer = m.0 } ∷ r.0, r.1, ap (λ l. c ∷ l) r.2, next m.2 r.3)
