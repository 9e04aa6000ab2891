use Rattle.std.proofs.Common.{◌≡◌, true, take}
use Rattle.std.specs.List.{list_all}
use Rattle.plan_maker.specs.Numbers.{is_kind_held}
use Rattle.plan_maker.proofs.numbers.read_kinds.Given as goal

abbrev pub invariant-loop-kind : goal.invariant-loop-kind
invariant-loop-kind l = list_all is_kind_held (take l.kind-index l.kinds) ≡ true
