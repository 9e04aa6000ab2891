use Rattle.std.proofs.Common.{rules, ◌≡◌, ◌==◌, FitsSigned, OnOk, string_bytes, unsigned_abs, w64, ap, eq-eqb, subst, sym, ◌∙◌}
use Rattle.std.proofs.lemmas.Bool.{ne_eqb}
use Rattle.std.proofs.lemmas.Int.{to_z-of_z}
use Rattle.std.proofs.lemmas.Result.{on_ok_weaker}
use Rattle.nest_tree.specs.Tree.{param_values}
use Rattle.nest_tree.specs.View.{head_of, tree_of}
use Rattle.c_expressions.specs.Sums.{AppendsNumber, form_at}
use Rattle.c_statements.specs.Pieces.{form_text}
use Rattle.c_statements.proofs.Writing.{chosen_false, chosen_true, number_written}
use Rattle.c_owners.specs.Closings.{last_by_steps}
use Rattle.c_owners.proofs.layout.Layout.put_last_trip.Goals as goal

pub returns-then-unsigned_abs-eq1 : goal.returns-then-unsigned_abs-eq1
returns-then-unsigned_abs-eq1 c =
    let tree = tree_of c.args.self.now.program.now in
    let nest = c.args.nest.now in
    let fits : FitsSigned w64 nest.step = search rules in
    let size = c.unsigned_abs.ensures.value ∙ ap unsigned_abs (to_z-of_z w64 nest.step fits) in
    let one : unsigned_abs nest.step ≡ 1 = sym size ∙ c.if-unsigned_abs-eq1.true in
    let last = subst (λ p. OnOk c.put_form.result (AppendsNumber (string_bytes c.args.out.now) (string_bytes c.put_form.new.out) (form_at (param_values (tree_of p)) nest.m2))) c.scope.ensures.program c.put_form.ensures in
    on_ok_weaker c.put_form.result (λ x. chosen_true (last_by_steps tree (head_of nest)) (unsigned_abs nest.step == 1) (eq-eqb (unsigned_abs nest.step) 1 one) (number_written x)) last

pub returns-else-unsigned_abs-eq1 : goal.returns-else-unsigned_abs-eq1
returns-else-unsigned_abs-eq1 c =
    let tree = tree_of c.args.self.now.program.now in
    let nest = c.args.nest.now in
    let fits : FitsSigned w64 nest.step = search rules in
    let size = c.unsigned_abs.ensures.value ∙ ap unsigned_abs (to_z-of_z w64 nest.step fits) in
    let other : unsigned_abs nest.step ≡ 1 → ⊥ = λ h. c.if-unsigned_abs-eq1.false (size ∙ h) in
    on_ok_weaker c.put_last_by_steps.result (λ x. chosen_false (form_text tree nest.m2) (unsigned_abs nest.step == 1) (ne_eqb (unsigned_abs nest.step) 1 other) x) c.put_last_by_steps.ensures
