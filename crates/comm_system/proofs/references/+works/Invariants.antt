use Rattle.std.proofs.Common.{◌≡◌, ◌++◌, drop, map}
use Rattle.nest_rows.specs.Views.{heads_of}
use Rattle.conflict_rules.specs.Seen.{reference_seen}
use Rattle.comm_system.proofs.Steps.{references_among}
use Rattle.comm_system.proofs.references.+works.Given as goal

abbrev pub invariant-push_all_references-loop-item : goal.invariant-push_all_references-loop-item
invariant-push_all_references-loop-item l = record {
  found : map reference_seen l.found.items ++ references_among (heads_of l.initial.around.items) (drop l.item-index l.items) ≡ map reference_seen l.initial.found.items ++ references_among (heads_of l.initial.around.items) l.items;
  around : l.around.items ≡ l.initial.around.items;
}
