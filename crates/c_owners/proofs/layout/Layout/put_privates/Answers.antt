use Rattle.std.proofs.Common.{◌==◌, not, length, ap, sym}
use Rattle.std.proofs.lemmas.Result.{on_ok_weaker}
use Rattle.nest_tree.specs.View.{head_of, tree_of}
use Rattle.c_statements.specs.Texts.{nothing}
use Rattle.c_statements.proofs.Writing.{chosen_false, chosen_true, unchanged}
use Rattle.c_owners.specs.Closings.{given_lines}
use Rattle.c_owners.proofs.layout.Layout.put_privates.Goals as goal

pub returns-then-is_empty : goal.returns-then-is_empty
returns-then-is_empty c =
    let given = c.args.given.now in
    chosen_false (given_lines (tree_of c.args.self.now.program.now) c.args.self.now.workers given.anchor.now (head_of given.nest.now) given.privates.now) (not (length given.privates.now == 0)) (ap not (sym c.if-is_empty.ensures)) (unchanged _)

pub returns-else-is_empty : goal.returns-else-is_empty
returns-else-is_empty c = on_ok_weaker c.put_given_lines.result (λ e. chosen_true nothing (not (length c.args.given.now.privates.now == 0)) (ap not (sym c.if-is_empty.ensures)) e) c.put_given_lines.ensures
