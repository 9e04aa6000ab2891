use Rattle.std.proofs.Common.{rules, ◌+ℤ◌, ◌*ℤ◌, FitsSigned, OnOk, to_z, of_z, w64, subst}
use Rattle.std.proofs.lemmas.Int.{to_z-of_z}
use Rattle.std.proofs.lemmas.Result.{on_ok_weaker}
use Rattle.nest_tree.specs.Form.{dot}
use Rattle.nest_tree.specs.Tree.{param_values}
use Rattle.nest_tree.specs.View.{tree_of}
use Rattle.c_expressions.specs.Sums.{Adds}
use Rattle.c_expressions.proofs.Summed.{adds_same, adds_then, form_parts}
use Rattle.c_owners.specs.Owners.{loops_in, spot_at}
use Rattle.c_owners.proofs.layout.Layout.add_spot.Goals as goal

pub returns : goal.returns
returns c =
    let ft : FitsSigned w64 c.args.times = c.ranges.times in
    let spot = c.args.spot.now in
    let fk : FitsSigned w64 spot.constant = search rules in
    let tree = tree_of c.args.self.now.program.now in
    let values = param_values tree in
    let times = c.args.times in
    let k = subst (λ z. Adds c.args.sum.now c.add.new.self (λ v. z *ℤ to_z w64 (of_z w64 c.args.times))) (to_z-of_z w64 spot.constant fk) c.add.ensures in
    let constants = subst (λ z. Adds c.args.sum.now c.add.new.self (λ v. spot.constant *ℤ z)) (to_z-of_z w64 times ft) k in
    let q = subst (λ p. Adds c.add.new.self c.add_params.new.sum (λ v. to_z w64 (of_z w64 c.args.times) *ℤ dot spot.params.now (param_values (tree_of p)))) c.scope.ensures.program c.add_params.ensures in
    let params = subst (λ z. Adds c.add.new.self c.add_params.new.sum (λ v. z *ℤ dot spot.params.now values)) (to_z-of_z w64 times ft) q in
    let loops = subst (λ z. OnOk c.add_terms.result (Adds c.add_params.new.sum c.add_terms.new.sum (λ v. z *ℤ loops_in spot.last v spot.loops.now))) (to_z-of_z w64 times ft) c.add_terms.ensures in
    on_ok_weaker c.add_terms.result
    (λ more. adds_same c.args.sum.now c.add_terms.new.sum (λ v. spot.constant *ℤ times +ℤ times *ℤ dot spot.params.now values +ℤ times *ℤ loops_in spot.last v spot.loops.now) (λ v. times *ℤ spot_at tree spot.constant spot.loops.now spot.params.now spot.last v)
    (λ v. form_parts spot.constant (loops_in spot.last v spot.loops.now) (dot spot.params.now values) times)
    (adds_then c.args.sum.now c.add_params.new.sum c.add_terms.new.sum (λ v. spot.constant *ℤ times +ℤ times *ℤ dot spot.params.now values) (λ v. times *ℤ loops_in spot.last v spot.loops.now)
    (adds_then c.args.sum.now c.add.new.self c.add_params.new.sum (λ v. spot.constant *ℤ times) (λ v. times *ℤ dot spot.params.now values) constants params) more))
    loops
