use Rattle.std.proofs.Common.{rules, ◌+ℤ◌, ◌*ℤ◌, FitsSigned, OnOk, to_z, of_z, w64, ◌∙◌, subst}
use Rattle.std.proofs.lemmas.Int.{to_z-of_z}
use Rattle.std.proofs.lemmas.Result.{on_ok_weaker}
use Rattle.nest_tree.specs.Form.{dot}
use Rattle.nest_tree.specs.Tree.{param_values}
use Rattle.nest_tree.specs.View.{tree_of}
use Rattle.c_expressions.specs.Sums.{Adds, form_at, loops_at}
use Rattle.c_expressions.proofs.Summed.{adds_same, adds_then, form_parts}
use Rattle.c_expressions.proofs.scope.Scope.add_form.Goals as goal

pub returns : goal.returns
returns c =
    let ft : FitsSigned w64 c.args.times = c.ranges.times in
    let fk : FitsSigned w64 c.constant.result = search rules in
    let values = param_values (tree_of c.args.self.now.program.now) in
    let form = c.args.form.now in
    let times = c.args.times in
    let k = subst (λ z. Adds c.args.sum.now c.add.new.self (λ v. z *ℤ to_z w64 (of_z w64 c.args.times))) (to_z-of_z w64 c.constant.result fk ∙ c.constant.ensures.value) c.add.ensures in
    let constants = subst (λ z. Adds c.args.sum.now c.add.new.self (λ v. form.constant *ℤ z)) (to_z-of_z w64 times ft) k in
    let p = subst (λ z. Adds c.add.new.self c.add_params.new.sum (λ v. z *ℤ dot c.params.result.now values)) (to_z-of_z w64 times ft) c.add_params.ensures in
    let params = subst (λ ps. Adds c.add.new.self c.add_params.new.sum (λ v. times *ℤ dot ps values)) c.params.ensures.pairs p in
    let l = subst (λ z. OnOk c.add_loops.result (Adds c.add_params.new.sum c.add_loops.new.sum (λ v. z *ℤ loops_at v c.loops.result.now))) (to_z-of_z w64 times ft) c.add_loops.ensures in
    let loops = subst (λ ps. OnOk c.add_loops.result (Adds c.add_params.new.sum c.add_loops.new.sum (λ v. times *ℤ loops_at v ps))) c.loops.ensures.pairs l in
    on_ok_weaker c.add_loops.result
    (λ more. adds_same c.args.sum.now c.add_loops.new.sum (λ v. form.constant *ℤ times +ℤ times *ℤ dot form.params values +ℤ times *ℤ loops_at v form.loops) (λ v. times *ℤ form_at values form v)
    (λ v. form_parts form.constant (loops_at v form.loops) (dot form.params values) times)
    (adds_then c.args.sum.now c.add_params.new.sum c.add_loops.new.sum (λ v. form.constant *ℤ times +ℤ times *ℤ dot form.params values) (λ v. times *ℤ loops_at v form.loops)
    (adds_then c.args.sum.now c.add.new.self c.add_params.new.sum (λ v. form.constant *ℤ times) (λ v. times *ℤ dot form.params values) constants params) more))
    loops
