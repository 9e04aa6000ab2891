-- The receipts that the engines leave.
use Rattle.std.proofs.Common.{◌≡◌, ◌∙◌, IfOk, Result, Some, refl, sym, ap, subst}
use Rattle.nest_tree.specs.Tree.{Tree}
use Rattle.nest_tree.specs.View.{tree_of}
use Rattle.nest_tree.specs.declared.program.Program.{Program}
use Rattle.nest_model.specs.Memory.{last_memory}
use Rattle.sync_plan.specs.declared.plan.Plan.{Plan}
use Rattle.spmd_model.specs.declared.style.Style.{Style}
use Rattle.fork_join.specs.Ends as join
use Rattle.spmd_machine.specs.Ends as core
use Rattle.shared_words.specs.Ends as spmd
use Rattle.shared_words.specs.Homes.{style_given}
use Rattle.command_words.specs.declared.request.Engine.{Engine}
use Rattle.command_words.specs.declared.request.Engine.TheVariants.{Core, Join, Spmd}
use Rattle.spmd_answer.specs.Ends.{without_style}
use Rattle.spmd_answer.specs.Receipts.{IsLeftBy}
use Rattle.spmd_answer.specs.declared.receipt.Receipt.{Receipt}
use Rattle.spmd_answer.specs.declared.receipt.Receipt.TheVariants as by

pub core_left : (style : Style) (tree : Tree) (plan : Plan) (e : core.End) → e.style ≡ style → e.plan ≡ plan → tree_of e.program ≡ tree → e.memory ≡ last_memory tree → core.HasRun e → IsLeftBy (Core style) tree plan (by.Core e)
core_left style tree plan e style_is plan_is tree_is memory_is run = record {
  engine_is = ap Core style_is;
  program = e.program;
  run_is = ap (λ (p : Plan). Some (e.program, p)) plan_is;
  program_is = tree_is;
  memory = memory_is;
  ended = run;
}

pub join_left : (program : Program) (plan : Plan) (e : join.End) → e.program ≡ program → e.plan ≡ plan → e.memory ≡ last_memory (tree_of program) → IsLeftBy Join (tree_of program) plan (by.Join e)
join_left program plan e program_is plan_is memory_is = record {
  engine_is = refl;
  program = e.program;
  run_is = ap (λ (p : Plan). Some (e.program, p)) plan_is;
  program_is = ap tree_of program_is;
  memory = memory_is;
  ended = memory_is ∙ ap (λ (p : Program). last_memory (tree_of p)) (sym program_is);
}

pub spmd_left : (style : Style) (program : Program) (plan : Plan) (e : spmd.End) → e.given ≡ Some (program, (plan, style)) → e.memory ≡ last_memory (tree_of program) → spmd.HasEnded e → IsLeftBy (Spmd style) (tree_of program) plan (by.Spmd e)
spmd_left style program plan e given_is memory_is ended = record {
  engine_is = ap (λ g. Spmd (style_given g)) given_is;
  program = program;
  run_is = ap without_style given_is;
  program_is = refl;
  memory = memory_is;
  ended = ended;
}

-- the receipt of a run by an engine is that of the engine that was asked for
pub by_engine : {A E : Type 0} (asked engine : Engine) (tree : Tree) (plan : Plan) (r : Result (A × Receipt) E) → asked ≡ engine → IfOk r (λ x. IsLeftBy engine tree plan x.1) → IfOk r (λ x. IsLeftBy asked tree plan x.1)
by_engine asked engine tree plan r is left = subst (λ (e : Engine). IfOk r (λ x. IsLeftBy e tree plan x.1)) (sym is) left
