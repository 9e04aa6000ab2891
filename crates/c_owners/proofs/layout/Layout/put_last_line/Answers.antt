use Rattle.std.proofs.Common.{sym}
use Rattle.std.proofs.lemmas.Result.{on_ok_weaker}
use Rattle.nest_tree.specs.View.{head_of, tree_of}
use Rattle.c_statements.specs.Texts.{nothing}
use Rattle.c_statements.proofs.Writing.{chosen_false, chosen_true, unchanged}
use Rattle.c_owners.specs.Closings.{follows_loop, last_line}
use Rattle.c_owners.proofs.layout.Layout.put_last_line.Goals as goal

pub returns-then-follows_loop : goal.returns-then-follows_loop
returns-then-follows_loop c =
    on_ok_weaker c.put_z.result (λ e. chosen_true nothing (follows_loop c.args.self.now.workers c.args.given.now.anchor.now c.args.given.now.nest.now.number) (sym c.if-follows_loop.ensures) e) c.put_z.ensures

pub returns-else-follows_loop : goal.returns-else-follows_loop
returns-else-follows_loop c =
    chosen_false (last_line (tree_of c.args.self.now.program.now) (head_of c.args.given.now.nest.now)) (follows_loop c.args.self.now.workers c.args.given.now.anchor.now c.args.given.now.nest.now.number) (sym c.if-follows_loop.ensures) (unchanged _)
