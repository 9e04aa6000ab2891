use Rattle.std.proofs.Common.{rules, w64}
use Rattle.std.proofs.lemmas.Int.{wraps, wrapping_add-bits}
use Rattle.c_expressions.proofs.forms.extent.Goals as goal

pub returns : goal.returns
returns c = search (rules, wraps, wrapping_add-bits w64)
