use Rattle.std.proofs.Common.{◌≡◌, ◌++◌, drop, map}
use Rattle.comm_system.specs.KeptViews.{kept_seen}
use Rattle.conflict_rules.specs.Seen.{reference_seen}
use Rattle.comm_system.proofs.own.all.Given as goal

abbrev pub invariant-loop-reference : goal.invariant-loop-reference
invariant-loop-reference l = map kept_seen l.found.items ++ map reference_seen (drop l.reference-index l.references) ≡ map reference_seen l.references
