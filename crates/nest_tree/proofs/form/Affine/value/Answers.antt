use Rattle.std.proofs.Common.{w64, rules, FitsSigned, to_z-of_z}
use Rattle.nest_tree.specs.Form.{dot}
use Rattle.nest_tree.proofs.Sums.{wrapped_sum-twice}
use Rattle.nest_tree.proofs.form.Affine.value.Goals as goal

pub returns : goal.returns
returns c =
    let f : FitsSigned w64 c.wrapped_sum.result = search rules in
    let g : FitsSigned w64 c.wrapped_sum-varying.result = search rules in
    let h : FitsSigned w64 c.self.inside.constant = search rules in
    let varying = simp to_z-of_z at c.wrapped_sum-varying.ensures in
    let all = simp to_z-of_z at c.wrapped_sum.ensures in
    let form = c.args.self.now in
    simp to_z-of_z (wrapped_sum-twice form.constant (dot form.loops c.args.loops.now) (dot form.params c.args.params.now) c.wrapped_sum-varying.result c.wrapped_sum.result (search (rules, varying)) (search (rules, all)) c.requires.small)
