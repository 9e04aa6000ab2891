use Rattle.std.proofs.Common.{◌≡◌, ℕ, ◌-◌, ◌≤◌, Some, true, arith}
use Rattle.std.specs.List.{slice_get}
use borrow.Author.Count.{below_more}
use Rattle.range_check.proofs.certified.are_certified.Goals as goal

pub loop-number-init : goal.loop-number-init
loop-number-init c = λ k high low. absurd (omega (arith, high, low))

pub loop-number-preserved : goal.loop-number-preserved
loop-number-preserved c =
    below_more (λ (k : ℕ). c.args.first ≤ k → slice_get c.args.certified.now (k - 1) ≡ Some true) c.loop-number.number c.loop-number.invariant (λ _. c.is_certified_at.ensures c.if-not-is_certified_at.false)
