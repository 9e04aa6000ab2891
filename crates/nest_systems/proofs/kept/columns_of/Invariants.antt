use Rattle.std.proofs.Common.{◌≡◌, ◌++◌, ◌-◌, ◌≤◌, map, take}
use Rattle.std.specs.List.{range_with_len}
use Rattle.nest_systems.proofs.kept.columns_of.Given as goal

abbrev pub invariant-loop-number : goal.invariant-loop-number
invariant-loop-number l = l.columns.items ≡ map (λ n. n - 1) (take l.number-index l.kept)

abbrev pub invariant-loop-place : goal.invariant-loop-place
invariant-loop-place l = record {
  low : l.fn.constants ≤ l.place;
  is : l.columns.items ≡ map (λ n. n - 1) l.kept ++ range_with_len l.fn.constants (l.place - l.fn.constants);
}
