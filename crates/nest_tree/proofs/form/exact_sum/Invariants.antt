use Rattle.std.proofs.Common.{◌≡◌, ◌+◌, ◌*◌, ◌^◌, ◌<◌, ◌≤◌, ◌+ℤ◌, drop, unsigned_abs}
use Rattle.nest_tree.specs.Form.{dot}
use Rattle.nest_tree.proofs.form.exact_sum.Given as goal

abbrev pub invariant-loop-number : goal.invariant-loop-number
invariant-loop-number l = record {
  sum : l.sum +ℤ dot (drop l.number-index l.pairs) l.values ≡ l.start +ℤ dot l.pairs l.values;
  few : l.number-index < 2 ^ 32;
  near : unsigned_abs l.sum ≤ unsigned_abs l.start + l.number-index * 2 ^ 94;
}
