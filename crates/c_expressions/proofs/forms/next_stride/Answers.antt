use Rattle.std.proofs.Common.{rules}
use Rattle.std.proofs.lemmas.Int.{wraps}
use Rattle.c_expressions.proofs.forms.next_stride.Goals as goal

pub returns : goal.returns
returns c = search (rules, wraps)
