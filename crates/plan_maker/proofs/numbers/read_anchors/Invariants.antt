use Rattle.std.proofs.Common.{◌≡◌, true, take}
use Rattle.std.specs.List.{list_all}
use Rattle.plan_maker.specs.Numbers.{is_anchor_held}
use Rattle.plan_maker.proofs.numbers.read_anchors.Given as goal

abbrev pub invariant-loop-anchor : goal.invariant-loop-anchor
invariant-loop-anchor l = list_all is_anchor_held (take l.anchor-index l.anchors) ≡ true
