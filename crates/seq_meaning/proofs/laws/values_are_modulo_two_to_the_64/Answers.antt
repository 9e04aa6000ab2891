use Rattle.seq_meaning.proofs.ValueLaws.{wrapped-fits, wrapped-differs, wrapped-kept, wrapped-same}
use Rattle.seq_meaning.proofs.laws.values_are_modulo_two_to_the_64.Goals as goal

pub returns : goal.returns
returns c = record { within = wrapped-fits; differs = wrapped-differs; kept = wrapped-kept; same = wrapped-same }
