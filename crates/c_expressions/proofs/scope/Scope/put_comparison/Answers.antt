use Rattle.std.proofs.Common.{◌++◌, string_bytes, ap, ◌∙◌}
use Rattle.std.proofs.lemmas.Result.{on_ok_weaker}
use Rattle.nest_tree.specs.View.{tree_of}
use Rattle.c_expressions.proofs.Telling.{comparison_told}
use Rattle.c_expressions.proofs.scope.Scope.put_comparison.Goals as goal

pub returns : goal.returns
returns c =
    let sign = c.in_ok-put_text.ensures ∙ ap (λ s. string_bytes c.put_form.new.out ++ s) c.sign_of.ensures in
    on_ok_weaker c.put_form-2.result (comparison_told (tree_of c.args.self.now.program.now) c.args.self.now.privates.now c.args.guard.now _ _ _ _ c.in_ok-put_form.ensures sign) c.put_form-2.ensures
