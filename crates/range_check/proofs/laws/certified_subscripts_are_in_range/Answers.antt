use Rattle.range_check.proofs.Solutions.{high_kept, low_kept}
use Rattle.range_check.proofs.laws.certified_subscripts_are_in_range.Goals as goal

pub returns-clause-low : goal.returns-clause-low
returns-clause-low c = λ tree i n a dimension certificate formed there at among low high is. low_kept tree i n a dimension formed there at among low high certificate is

pub returns-clause-high : goal.returns-clause-high
returns-clause-high c = λ tree i n a dimension certificate formed there at among low high is. high_kept tree i n a dimension formed there at among low high certificate is
