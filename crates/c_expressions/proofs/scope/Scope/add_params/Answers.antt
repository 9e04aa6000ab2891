use Rattle.std.proofs.Common.{rules, ◌≡◌, ◌+◌, ◌*ℤ◌, [], drop, get_or, pos, FitsSigned, to_z, of_z, w64, ap, ◌∙◌, subst}
use Rattle.std.proofs.lemmas.Int.{to_z-of_z}
use Rattle.std.proofs.lemmas.List.{drop_all}
use Rattle.nest_tree.specs.Form.{dot, numbered}
use Rattle.nest_tree.specs.Tree.{param_values}
use Rattle.nest_tree.specs.View.{tree_of}
use Rattle.c_expressions.specs.Sums.{Adds}
use Rattle.c_expressions.proofs.Summed.{dot_next, left_next, left_none, times_none}
use Rattle.c_expressions.proofs.scope.Scope.add_params.Goals as goal

pub loop-number-preserved : goal.loop-number-preserved
loop-number-preserved c =
    let values = param_values (tree_of c.args.self.now.program.now) in
    let times = to_z w64 (of_z w64 c.args.times) in
    let item = get_or c.args.params.now c.loop-number.number-index (0, pos 0) in
    let fi : FitsSigned w64 item.1 = search rules in
    let fp : FitsSigned w64 c.parameter.result = search rules in
    let first = subst (λ z. Adds c.loop-number.sum c.add_product.new.self (λ v. z *ℤ times *ℤ to_z w64 (of_z w64 c.parameter.result))) (to_z-of_z w64 item.1 fi) c.add_product.ensures in
    let more = subst (λ z. Adds c.loop-number.sum c.add_product.new.self (λ v. item.1 *ℤ times *ℤ z)) (to_z-of_z w64 c.parameter.result fp ∙ c.parameter.ensures) first in
    left_next c.args.sum.now c.loop-number.sum c.add_product.new.self (λ v. times *ℤ dot (drop c.loop-number.number-index c.args.params.now) values) (λ v. item.1 *ℤ times *ℤ numbered values item.0)
    (λ v. times *ℤ dot (drop (c.loop-number.number-index + 1) c.args.params.now) values) (λ v. times *ℤ dot c.args.params.now values) c.loop-number.invariant more
    (λ v. dot_next c.args.params.now values c.loop-number.number-index (0, pos 0) times c.loop-number-test.true)

pub returns : goal.returns
returns c =
    let ft : FitsSigned w64 c.args.times = c.ranges.times in
    let values = param_values (tree_of c.args.self.now.program.now) in
    let times = to_z w64 (of_z w64 c.args.times) in
    let rest = drop c.loop-number.number-index c.args.params.now in
    let none : rest ≡ [] = drop_all c.loop-number.number-index c.args.params.now c.loop-number-test.false in
    let all = left_none c.args.sum.now c.loop-number.sum (λ v. times *ℤ dot rest values) (λ v. times *ℤ dot c.args.params.now values) c.loop-number.invariant (λ v. times_none times (dot rest values) (ap (λ ps. dot ps values) none)) in
    subst (λ t. Adds c.args.sum.now c.loop-number.sum (λ v. t *ℤ dot c.args.params.now values)) (to_z-of_z w64 c.args.times ft) all
