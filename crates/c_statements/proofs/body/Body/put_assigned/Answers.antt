use Rattle.std.proofs.Common.{sym}
use Rattle.std.proofs.lemmas.Result.{on_ok_weaker}
use Rattle.nest_tree.specs.View.{expression_of, tree_of}
use Rattle.c_statements.specs.Layout.{is_summed, stored_text, summed_text}
use Rattle.c_statements.proofs.Writing.{chosen_false, chosen_true}
use Rattle.c_statements.proofs.body.Body.put_assigned.Goals as goal

pub returns-then-is_summed : goal.returns-then-is_summed
returns-then-is_summed c =
    on_ok_weaker c.put_summed.result
    (λ e. chosen_true (stored_text (tree_of c.args.self.now.scope.program.now) c.args.self.now.scope.privates.now c.args.target.now (expression_of c.args.value.now))
    (is_summed c.args.self.now.sums.now c.args.target.now) (sym c.if-is_summed.ensures) e)
    c.put_summed.ensures

pub returns-else-is_summed : goal.returns-else-is_summed
returns-else-is_summed c =
    on_ok_weaker c.put_stored.result
    (λ e. chosen_false (summed_text (tree_of c.args.self.now.scope.program.now) c.args.self.now.scope.privates.now c.args.target.now.variable (expression_of c.args.value.now))
    (is_summed c.args.self.now.sums.now c.args.target.now) (sym c.if-is_summed.ensures) e)
    c.put_stored.ensures
