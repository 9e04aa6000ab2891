use Rattle.std.proofs.Common.{sym, subst}
use Rattle.clap.specs.Walk.{texts}
use Rattle.nest_tree.specs.View.{tree_of}
use Rattle.command_words.specs.Wanted.{wanted}
use Rattle.command_words.specs.declared.request.Request.{Request}
use Rattle.spmd_answer.specs.Due.{IsDueOn}
use Rattle.spmd_answer.specs.Inputs.{readings_of}
use Rattle.spmd_answer.specs.Answers.{due_in}
use Rattle.spmd_answer.proofs.answer.answer_on.Goals as goal

pub returns-in_ok-swept-in-Sweep-clause-due : goal.returns-in_ok-swept-in-Sweep-clause-due
returns-in_ok-swept-in-Sweep-clause-due g c =
    subst (λ (r : Request). IsDueOn (wanted r) (tree_of c.args.program.now) (readings_of c.args.input.now) c.args.input.now.behind.now (due_in c.in_ok-swept-in-Sweep.field-0))
    (sym c.in-Sweep.is) (c.in_ok-swept-in-Sweep.ensures (texts c.in-Sweep.field-1.items))
