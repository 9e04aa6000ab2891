use Rattle.std.proofs.Common.{◌≡◌, true, take}
use Rattle.std.specs.List.{list_all}
use Rattle.plan_maker.specs.Numbers.{is_pair_held}
use Rattle.plan_maker.proofs.numbers.read_pairs.Given as goal

abbrev pub invariant-loop-pair : goal.invariant-loop-pair
invariant-loop-pair l = list_all is_pair_held (take l.pair-index l.pairs) ≡ true
