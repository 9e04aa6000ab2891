use Rattle.std.proofs.Common.{◌≡◌, true, take}
use Rattle.std.specs.List.{list_all}
use Rattle.sync_plan.specs.Numbers.{is_32}
use Rattle.plan_maker.proofs.numbers.read_scalars.Given as goal

abbrev pub invariant-loop-scalar : goal.invariant-loop-scalar
invariant-loop-scalar l = list_all is_32 (take l.scalar-index l.scalars) ≡ true
