use Rattle.std.proofs.Common.{rules, ◌≡◌, ◌++◌, codes, FitsSigned, OnOk, string_bytes, w64, subst}
use Rattle.std.specs.Fmt.{signed_decimal}
use Rattle.std.proofs.lemmas.Int.{to_z-of_z}
use Rattle.std.proofs.lemmas.Result.{on_ok_weaker}
use Rattle.nest_tree.specs.Tree.{param_values}
use Rattle.nest_tree.specs.View.{tree_of}
use Rattle.c_expressions.specs.Sums.{AppendsNumber, form_at}
use Rattle.c_statements.proofs.Writing.{exactly, joined, number_written}
use Rattle.c_owners.proofs.layout.Layout.put_last_by_steps.Goals as goal

pub returns : goal.returns
returns c =
    let nest = c.args.nest.now in
    let fits : FitsSigned w64 nest.step = search rules in
    let step = subst (λ z. OnOk c.put_step.result (string_bytes c.put_step.new.out ≡ string_bytes c.put_form-2.new.out ++ (codes ", " ++ (signed_decimal z ++ codes ")")))) (to_z-of_z w64 nest.step fits) c.put_step.ensures in
    let first = subst (λ p. AppendsNumber (string_bytes c.put_code.new.out) (string_bytes c.put_form.new.out) (form_at (param_values (tree_of p)) nest.m1)) c.scope.ensures.program c.in_ok-put_form.ensures in
    let last = subst (λ p. AppendsNumber (string_bytes c.put_code-2.new.out) (string_bytes c.put_form-2.new.out) (form_at (param_values (tree_of p)) nest.m2)) c.scope-2.ensures.program c.in_ok-put_form-2.ensures in
    on_ok_weaker c.put_step.result (λ e. joined c.in_ok-put_code.ensures (joined (number_written first) (joined c.in_ok-put_code-2.ensures (joined (number_written last) (exactly _ e))))) step
