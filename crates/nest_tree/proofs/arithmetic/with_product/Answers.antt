use Rattle.std.proofs.Common.{w64, rules}
use Rattle.std.proofs.lemmas.Int.{wraps, wrapping_add-bits}
use Rattle.nest_tree.proofs.arithmetic.with_product.Goals as goal

pub returns : goal.returns
returns c = search (rules, wraps, wrapping_add-bits w64)
