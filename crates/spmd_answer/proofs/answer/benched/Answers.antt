use Rattle.std.proofs.Common.{refl}
use Rattle.nest_tree.specs.View.{tree_of}
use Rattle.command_words.specs.Wanted.{bench}
use Rattle.spmd_answer.specs.Due.{written}
use Rattle.spmd_answer.proofs.Answering.{run_left}
use Rattle.spmd_answer.proofs.answer.benched.Goals as goal

pub returns-clause-due : goal.returns-clause-due
returns-clause-due g c =
    λ at bytes. let ran = c.in_ok-text.ensures bytes in written _ (ran.plan, ran.written) c.done.ensures

pub returns-clause-receipt : goal.returns-clause-receipt
returns-clause-receipt g c =
    λ bytes.
    run_left (bench c.args.sizes.workers c.args.sizes.points c.args.sizes.sweeps) (tree_of c.args.program.now) bytes c.in_ok-text.text.items c.in_ok-text.receipt c.done.result refl (c.in_ok-text.ensures bytes) c.done.ensures
