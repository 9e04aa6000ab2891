use Rattle.seq_meaning.proofs.ValueLaws.{least-below, least-among, greatest-above, greatest-among}
use Rattle.seq_meaning.proofs.laws.extremes_are_reached.Goals as goal

pub returns : goal.returns
returns c = record { least_below = least-below; least_among = least-among; greatest_above = greatest-above; greatest_among = greatest-among }
