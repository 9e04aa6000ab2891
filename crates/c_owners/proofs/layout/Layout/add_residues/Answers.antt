use Rattle.std.proofs.Common.{rules, ◌≡◌, ◌+◌, ◌<◌, ◌+ℤ◌, ◌*ℤ◌, [], drop, get_or, pos, FitsSigned, to_z, of_z, w64, ap, ◌∙◌, arith}
use Rattle.std.specs.Int.{int_rem_euclid}
use Rattle.std.proofs.lemmas.Int.{to_z-of_z}
use Rattle.std.proofs.lemmas.List.{drop_all}
use Rattle.nest_tree.specs.Form.{dot, numbered}
use Rattle.nest_tree.specs.Tree.{param_values}
use Rattle.nest_tree.specs.View.{tree_of}
use Rattle.nest_tree.proofs.Sums.{dot-drop}
use Rattle.c_owners.proofs.Likeness.{left_first, left_over, left_step, residues_alike}
use Rattle.c_owners.proofs.layout.Layout.add_residues.Goals as goal

pub loop-number-init : goal.loop-number-init
loop-number-init c = λ all x. left_first c.args.self.now.workers c.args.sum.now all (λ v. dot c.args.params.now (param_values (tree_of c.args.self.now.program.now))) x

pub loop-number-preserved : goal.loop-number-preserved
loop-number-preserved c = λ all x.
    let workers = c.args.self.now.workers in
    let values = param_values (tree_of c.args.self.now.program.now) in
    let item = get_or c.args.params.now c.loop-number.number-index (0, pos 0) in
    let i = c.loop-number.number-index in
    let some : 0 < workers = omega (arith, c.args.self.now.some) in
    let fi : FitsSigned w64 item.1 = search rules in
    let fp : FitsSigned w64 c.parameter.result = search rules in
    let fv : FitsSigned w64 c.residue-value.result = search rules in
    let fr : FitsSigned w64 c.residue.result = search rules in
    let value : to_z w64 (of_z w64 c.residue-value.result) ≡ int_rem_euclid (numbered values item.0) (pos workers) =
    to_z-of_z w64 c.residue-value.result fv ∙ c.residue-value.ensures ∙ ap (λ z. int_rem_euclid z (pos workers)) (to_z-of_z w64 c.parameter.result fp ∙ c.parameter.ensures ∙ ap (λ p. numbered (param_values (tree_of p)) item.0) c.scope.ensures.program) in
    let coefficient : to_z w64 (of_z w64 c.residue.result) ≡ int_rem_euclid item.1 (pos workers) = to_z-of_z w64 c.residue.result fr ∙ c.residue.ensures ∙ ap (λ z. int_rem_euclid z (pos workers)) (to_z-of_z w64 item.1 fi) in
    left_step workers c.loop-number.sum c.add.new.self (λ v. dot (drop i c.args.params.now) values) (λ v. to_z w64 (of_z w64 c.residue.result) *ℤ to_z w64 (of_z w64 c.residue-value.result)) (λ v. item.1 *ℤ numbered values item.0)
    (λ v. dot (drop (i + 1) c.args.params.now) values) (λ v. all v +ℤ dot c.args.params.now values) (c.loop-number.invariant all x) c.add.ensures
    (λ v. dot-drop c.args.params.now values i (0, pos 0) c.loop-number-test.true)
    (λ v. residues_alike workers (to_z w64 (of_z w64 c.residue.result)) (to_z w64 (of_z w64 c.residue-value.result)) item.1 (numbered values item.0) some coefficient value)

pub returns : goal.returns
returns c = λ all x.
    let workers = c.args.self.now.workers in
    let values = param_values (tree_of c.args.self.now.program.now) in
    let rest = drop c.loop-number.number-index c.args.params.now in
    let none : rest ≡ [] = drop_all c.loop-number.number-index c.args.params.now c.loop-number-test.false in
    left_over workers c.loop-number.sum (λ v. dot rest values) (λ v. all v +ℤ dot c.args.params.now values) (c.loop-number.invariant all x) (λ v. ap (λ ps. dot ps values) none)
