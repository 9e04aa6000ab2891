use Rattle.std.proofs.Common.{◌≡◌, map, take}
use Rattle.f77_forms.specs.View as forms
use Rattle.nest_tree.specs.View.{printed_of}
use Rattle.f77_scene.specs.Trees.{item_tree}
use Rattle.f77_source.proofs.item.printed_in.Given as goal

abbrev pub invariant-loop-item : goal.invariant-loop-item
invariant-loop-item l = map printed_of l.items.items ≡ map (item_tree l.variables l.known) (map forms.printed_of (take l.item-index l.printed))
