use Rattle.std.proofs.Common.{◌≡◌, ◌+ℤ◌, drop, map}
use Rattle.nest_tree.specs.Form.{dot}
use Rattle.nest_tree.specs.Values.{wrapped}
use Rattle.nest_tree.specs.declared.tree.Parameter.{Parameter}
use Rattle.nest_walk.proofs.form.with_params.Given as goal

abbrev pub invariant-loop-number : goal.invariant-loop-number
invariant-loop-number l =
    let values = map (λ (p : Parameter). p.value) l.params in
    wrapped (l.total +ℤ dot (drop l.number-index l.pairs) values) ≡ wrapped (l.fn.sum +ℤ dot l.pairs values)
