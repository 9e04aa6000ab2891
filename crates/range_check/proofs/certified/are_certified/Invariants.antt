use Rattle.std.proofs.Common.{◌≡◌, ℕ, ◌-◌, ◌≤◌, ◌<◌, Some, true}
use Rattle.std.specs.List.{slice_get}
use Rattle.range_check.proofs.certified.are_certified.Given as goal

abbrev pub invariant-loop-number : goal.invariant-loop-number
invariant-loop-number l = (k : ℕ) → k < l.number → l.first ≤ k → slice_get l.certified (k - 1) ≡ Some true
