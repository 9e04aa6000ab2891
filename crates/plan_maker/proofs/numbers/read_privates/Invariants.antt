use Rattle.std.proofs.Common.{◌≡◌, true, take}
use Rattle.std.specs.List.{list_all}
use Rattle.plan_maker.specs.Numbers.{are_privates_held}
use Rattle.plan_maker.proofs.numbers.read_privates.Given as goal

abbrev pub invariant-loop-list : goal.invariant-loop-list
invariant-loop-list l = list_all are_privates_held (take l.list-index l.lists) ≡ true
