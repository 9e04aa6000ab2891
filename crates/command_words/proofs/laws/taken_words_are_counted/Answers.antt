use Rattle.command_words.proofs.Counted.{taken_counted}
use Rattle.command_words.proofs.laws.taken_words_are_counted.Goals as goal

pub returns : goal.returns
returns c words wanted takes = taken_counted words wanted takes
