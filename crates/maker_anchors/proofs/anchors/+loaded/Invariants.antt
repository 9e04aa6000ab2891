use Rattle.std.proofs.Common.{◌≡◌, drop}
use Rattle.nest_tree.specs.Loads.{loads_among}
use Rattle.nest_tree.specs.View.{expressions_from}
use Rattle.maker_anchors.specs.Anchors.{first_of}
use Rattle.maker_anchors.specs.Scopes.{good_load_anchor}
use Rattle.maker_anchors.proofs.anchors.+loaded.Given as goal

abbrev pub invariant-first_loaded_among-loop-argument : goal.invariant-first_loaded_among-loop-argument
invariant-first_loaded_among-loop-argument l = first_of (good_load_anchor l.scope l.own) (loads_among (expressions_from (drop l.argument-index l.arguments))) ≡ first_of (good_load_anchor l.scope l.own) (loads_among (expressions_from l.arguments))
