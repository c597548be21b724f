-- `note_words` meets its claim where a timer is handed out (`notes`).
use borrow.Author.Rules.{rules}
use Rattle.words.proofs.laws.Gauge.{notes}
use Rattle.words.proofs.note_words.Goals as goal

pub returns-in-3 : goal.returns-in-3
returns-in-3 c =
    notes _ _ _ (search rules) (search rules) c.lateness_of.ensures c.note.ensures
