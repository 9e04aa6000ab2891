use Rattle.nest_model.proofs.Small.{all_small}
use Rattle.nest_model.proofs.laws.computed_numbers_are_small.Goals as goal

pub returns : goal.returns
returns c = all_small
