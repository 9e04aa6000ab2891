use Rattle.seq_meaning.proofs.ValueLaws.{wrapped-sums, wrapped-differences, wrapped-negatives, wrapped-products}
use Rattle.seq_meaning.proofs.laws.arithmetic_is_modulo_two_to_the_64.Goals as goal

pub returns : goal.returns
returns c = record { sums = wrapped-sums; differences = wrapped-differences; negatives = wrapped-negatives; products = wrapped-products }
