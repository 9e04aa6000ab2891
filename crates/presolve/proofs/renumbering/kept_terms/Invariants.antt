use Rattle.std.proofs.Common.{◌≡◌, ◌+◌, take}
use Rattle.presolve.specs.Columns.{AreRising}
use Rattle.presolve.specs.Renamed.{renamed_terms}
use Rattle.presolve.specs.Rows.{NamesKept, kept_number}
use Rattle.presolve.proofs.renumbering.kept_terms.Given as goal

abbrev pub invariant-loop-term : goal.invariant-loop-term
invariant-loop-term l = AreRising 1 (l.count + 1) l.numbers → (l.made.items ≡ renamed_terms (kept_number l.count l.numbers) (take l.term-index l.terms)) × NamesKept l.count l.numbers (take l.term-index l.terms)
