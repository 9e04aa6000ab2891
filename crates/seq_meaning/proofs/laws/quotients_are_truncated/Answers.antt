use Rattle.seq_meaning.proofs.ValueLaws.{quotient-truncated, quotient-least_by_minus_one}
use Rattle.seq_meaning.proofs.laws.quotients_are_truncated.Goals as goal

pub returns : goal.returns
returns c = record { truncated = quotient-truncated; least_by_minus_one = quotient-least_by_minus_one }
