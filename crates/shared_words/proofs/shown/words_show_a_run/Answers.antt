use Rattle.shared_words.proofs.Schedules.{at_ends, extended, scheduled}
use Rattle.shared_words.proofs.shown.words_show_a_run.Goals as goal

pub returns : goal.returns
returns c = record { shown = scheduled; extended = extended; ended = at_ends }
