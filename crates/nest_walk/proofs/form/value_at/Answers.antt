use Rattle.std.proofs.Common.{◌∙◌, map, w64, rules, FitsSigned}
use Rattle.std.proofs.lemmas.Int.{to_z-of_z}
use Rattle.nest_tree.specs.Form.{dot}
use Rattle.nest_tree.specs.declared.tree.Parameter.{Parameter}
use Rattle.nest_walk.specs.Paths.{dot_among}
use Rattle.nest_walk.specs.RoundsOf.{rounds_of}
use Rattle.nest_walk.proofs.Sums.{sum_both}
use Rattle.nest_walk.proofs.form.value_at.Goals as goal

pub returns-clause-value : goal.returns-clause-value
returns-clause-value c =
    let form = c.args.form.now in
    let rounds = rounds_of c.args.path.now in
    let values = map (λ (p : Parameter). p.value) c.args.params.now in
    let f : FitsSigned w64 c.with_params.result = search rules in
    let g : FitsSigned w64 c.with_loops-sum.result = search rules in
    let h : FitsSigned w64 c.constant.result = search rules in
    let first = rw (c.constant.ensures.value, c.loops.ensures.pairs) at (simp to_z-of_z at c.with_loops-sum.ensures) in
    let both = rw c.params.ensures.pairs at (simp to_z-of_z at c.with_params.ensures) in
    to_z-of_z w64 c.with_params.result f ∙ sum_both form.constant (dot_among form.loops rounds) (dot form.params values) c.with_loops-sum.result c.with_params.result first both
