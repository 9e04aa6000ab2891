use Rattle.std.proofs.Common.{ap, sym, ◌∙◌, List, ℕ, subst}
use Rattle.fm_elim.specs.Answers.{NamesEachOnce}
use Rattle.range_check.specs.RangeSystems.{order_over}
use Rattle.range_check.proofs.Orders.{order_over-once}
use Rattle.range_check.proofs.proof.left_proof.Goals as goal

pub refute-requires-clause-order : goal.refute-requires-clause-order
refute-requires-clause-order c =
    let vars = c.system-system.result.now.vars in
    let order = c.as_slice.ensures.value ∙ c.in_ok-order.ensures ∙ ap (λ v. order_over v c.args.loops) c.vars.ensures in
    subst (λ (xs : List ℕ). NamesEachOnce vars xs) (sym order) (order_over-once vars c.args.loops)
