use Rattle.std.proofs.Common.{◌≡◌, ◌++◌, drop, map, []}
use Rattle.comm_system.specs.KeptViews.{kept_seen}
use Rattle.conflict_rules.specs.Seen.{reference_seen}
use Rattle.comm_system.specs.Shown.{shown_among}
use Rattle.comm_system.proofs.own.shown.Given as goal

abbrev pub invariant-loop-reference : goal.invariant-loop-reference
invariant-loop-reference l = map kept_seen l.found.items ++ shown_among l.privates l.taken.items (map reference_seen (drop l.reference-index l.references)) ≡ shown_among l.privates [] (map reference_seen l.references)
