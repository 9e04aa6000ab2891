use Rattle.std.proofs.Common.{rules, ◌≡◌, ◌++◌, FitsSigned, OnOk, string_bytes, w64, subst}
use Rattle.std.proofs.lemmas.Int.{to_z-of_z}
use Rattle.std.proofs.lemmas.Result.{on_ok_weaker}
use Rattle.nest_tree.specs.Tree.{param_values}
use Rattle.nest_tree.specs.View.{tree_of}
use Rattle.c_expressions.specs.Sums.{AppendsNumber, form_at}
use Rattle.c_statements.specs.Layout.{compared}
use Rattle.c_statements.proofs.Writing.{exactly, joined, number_written}
use Rattle.c_owners.proofs.layout.Layout.put_has_trips.Goals as goal

pub returns : goal.returns
returns c =
    let nest = c.args.nest.now in
    let fits : FitsSigned w64 nest.step = search rules in
    let between = subst (λ z. string_bytes c.put_compared.new.out ≡ string_bytes c.put_form.new.out ++ compared z) (to_z-of_z w64 nest.step fits) c.in_ok-put_compared.ensures in
    let first = subst (λ p. AppendsNumber (string_bytes c.args.out.now) (string_bytes c.put_form.new.out) (form_at (param_values (tree_of p)) nest.m1)) c.scope.ensures.program c.in_ok-put_form.ensures in
    let last = subst (λ p. OnOk c.put_form-2.result (AppendsNumber (string_bytes c.put_compared.new.out) (string_bytes c.put_form-2.new.out) (form_at (param_values (tree_of p)) nest.m2))) c.scope-2.ensures.program c.put_form-2.ensures in
    on_ok_weaker c.put_form-2.result (λ e. joined (number_written first) (joined (exactly _ between) (number_written e))) last
