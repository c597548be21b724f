-- The words of a store whose stacks are lent as words of their own: what holds of the one holds of the other.
use mathlib.Core.Path.{◌≡◌, sym, subst}
use Rattle.places.specs.declared.Tops.{Tops}
use Rattle.places.specs.Words.{place_words}
use Rattle.wheel.specs.Words.{WheelWords, wheel_words}
use Rattle.records.specs.Words.{QueueWords, queue_words}

-- the stacks st in place of their own
abbrev pub stacked_in : Tops → WheelWords → WheelWords
stacked_in st w = wheel_words w.elapsed w.occupied (place_words st w.places.heads w.places.links)

abbrev pub place_words_of : Tops → QueueWords → QueueWords
place_words_of st s = queue_words (stacked_in st s.wheel) s.values s.deadlines s.turns s.hand s.until

pub stacked_same : {st : Tops} {s : QueueWords} → st ≡ s.wheel.places.tops → place_words_of st s ≡ s
stacked_same {s = s} q = λ i. place_words_of (q i) s

pub stacked_in_lem : {st : Tops} {w : WheelWords} → st ≡ w.places.tops → stacked_in st w ≡ w
stacked_in_lem {w = w} q = λ i. stacked_in (q i) w

pub lent_as : (P : QueueWords → Type 0) {st : Tops} {s : QueueWords} → st ≡ s.wheel.places.tops → P s → P (place_words_of st s)
lent_as P q x = subst P (sym (stacked_same q)) x
