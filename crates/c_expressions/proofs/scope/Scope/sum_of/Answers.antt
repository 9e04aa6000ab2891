use Rattle.std.proofs.Common.{◌*ℤ◌, pos}
use Rattle.nest_tree.specs.Tree.{param_values}
use Rattle.nest_tree.specs.View.{tree_of}
use Rattle.c_expressions.specs.Sums.{form_at}
use Rattle.c_expressions.proofs.Summed.{one_times, sums_more, sums_same}
use Rattle.c_expressions.proofs.scope.Scope.sum_of.Goals as goal

pub returns : goal.returns
returns c =
    let values = param_values (tree_of c.args.self.now.program.now) in
    sums_same c.add_form.new.sum (λ v. pos 1 *ℤ form_at values c.args.form.now v) (form_at values c.args.form.now) (λ v. one_times (form_at values c.args.form.now v))
    (sums_more c.new-sum.result c.add_form.new.sum (λ v. pos 1 *ℤ form_at values c.args.form.now v) c.new-sum.ensures c.in_ok-add_form.ensures)
