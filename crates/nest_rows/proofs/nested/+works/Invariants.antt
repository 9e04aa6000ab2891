use Rattle.std.proofs.Common.{◌≡◌, take}
use Rattle.nest_tree.specs.View.{statements_from}
use Rattle.nest_walk.specs.Grown.{GrewBy}
use Rattle.nest_rows.specs.Nested.{nested_among}
use Rattle.nest_rows.specs.Views.{IsView, heads_of}
use Rattle.nest_rows.proofs.nested.+works.Given as goal

abbrev pub invariant-push_works-loop-item : goal.invariant-push_works-loop-item
invariant-push_works-loop-item l = record {
  works : GrewBy IsView (nested_among (heads_of l.initial.around.items) (statements_from (take l.item-index l.items))) l.initial.works.items l.works.items;
  around : l.around.items ≡ l.initial.around.items;
}
