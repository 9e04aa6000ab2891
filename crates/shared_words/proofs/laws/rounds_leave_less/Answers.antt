use Rattle.shared_words.proofs.Rounds.{leave_less}
use Rattle.shared_words.proofs.laws.rounds_leave_less.Goals as goal

pub returns : goal.returns
returns c style tree plan r = leave_less style tree plan (c.timelines_in_styles.ensures.sound style tree plan r.formed r.fits) c.rounds_go_on.ensures
