use Rattle.std.proofs.Common.{◌≡◌, take}
use Rattle.presolve.specs.Renamed.{number_in_64, renamed_terms}
use Rattle.presolve.proofs.renumbering.whole_terms.Given as goal

abbrev pub invariant-loop-term : goal.invariant-loop-term
invariant-loop-term l = l.made.items ≡ renamed_terms (number_in_64 l.count l.numbers) (take l.term-index l.terms)
