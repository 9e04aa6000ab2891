-- The receipt of a run: of which program and plan it is, and by which engine.
use Rattle.std.specs.Prelude.{ℕ, ℤ, ◌≡◌, ◌≢◌, true, List, Option, Some, None}
use Rattle.nest_tree.specs.Tree.{Tree}
use Rattle.nest_tree.specs.View.{tree_of}
use Rattle.nest_tree.specs.declared.program.Program.{Program}
use Rattle.nest_model.specs.Memory.{last_memory}
use Rattle.sync_plan.specs.declared.plan.Plan.{Plan}
use Rattle.f77_lines.specs.Listing.{entries_of}
use Rattle.f77_scene.specs.Reading.{program_in}
use Rattle.f77_scene.specs.Scene.{Name}
use Rattle.spmd_model.specs.declared.style.Style.TheVariants.{Arrive}
use Rattle.command_words.specs.Wanted.{Wanted, run}
use Rattle.command_words.specs.declared.request.Engine.{Engine}
use Rattle.command_words.specs.declared.request.Engine.TheVariants.{Spmd}
use Rattle.plan_input.specs.Sources.{behind_end}
use Rattle.spmd_answer.specs.Due.{Due, IsTextBy, is_run, settings_for}
use Rattle.spmd_answer.specs.Ends.{HasEnded, engine_of, memory_in, run_in}
use Rattle.spmd_answer.specs.declared.receipt.Receipt.{Receipt}
use Rattle.plan_input.specs.declared.status.Status.TheVariants.{Done}

-- The receipt is that of a run by this engine, of this program under this plan, which came to its end with the program's last memory.
pub record IsLeftBy (engine : Engine) (tree : Tree) (plan : Plan) (r : Receipt) : Type 0 where
  pub engine_is : engine_of r ≡ engine
  pub program : Program
  pub run_is : run_in r ≡ Some (program, plan)
  pub program_is : tree_of program ≡ tree
  pub memory : memory_in r ≡ last_memory tree
  pub ended : HasEnded r

-- by which engine a request runs: `bench` over words that workers share, where all arrive at barriers
abbrev pub engine_for : Wanted → Engine
engine_for (run workers choice by settings) = by
engine_for wanted = Spmd Arrive

-- The receipt is of a run of this program by the request's engine, under a plan by which this text is written for the request.
pub record IsReceiptOf (wanted : Wanted) (tree : Tree) (bytes text : List ℕ) (r : Receipt) :
    Type 0 where
  pub plan : Plan
  pub left : IsLeftBy (engine_for wanted) tree plan r
  pub written : IsTextBy wanted tree bytes plan text

-- Where what is due for a request on a program is written by a run, there is its receipt; else there is none.
abbrev pub HasReceipt : Wanted → Tree → List ℕ → Due → Option Receipt → Type 0
HasReceipt wanted tree bytes due None = is_run wanted ≡ true → due.status ≢ Done
HasReceipt wanted tree bytes due (Some r) =
    (is_run wanted ≡ true) × (due.status ≡ Done) × IsReceiptOf wanted tree bytes due.text r

-- The same, from the bytes of a source.
abbrev pub HasReceiptOf : Wanted → List (Name × ℤ) → List ℕ → Due → Option Receipt → Type 0
HasReceiptOf wanted settings bytes due receipt = HasReceipt wanted
    (program_in (entries_of bytes) (settings_for wanted settings)) (behind_end bytes) due receipt
