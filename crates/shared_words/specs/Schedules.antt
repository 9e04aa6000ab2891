-- A schedule whose run the words show.
use Rattle.std.specs.Prelude.{ℕ, ◌<◌, ◌++◌, All, List, replicate}
use Rattle.nest_tree.specs.Tree.{Tree}
use Rattle.sync_plan.specs.declared.plan.Plan.{Plan}
use Rattle.spmd_model.specs.Runs.{run_of}
use Rattle.spmd_model.specs.Machines.{machine_by}
use Rattle.spmd_model.specs.declared.style.Style.{Style}
use Rattle.shared_words.specs.Runs.{AreWordsOf}

-- these words show, at these places, the state behind a schedule of the program's machine under the plan
pub record HasSchedule (style : Style) (tree : Tree) (plan : Plan) (words : List ℕ) (at : ℕ → ℕ) :
    Type 0 where
  pub schedule : List ℕ
  pub workers : All (λ p. p < plan.workers) schedule
  pub shows : AreWordsOf style tree plan words at (run_of (machine_by style tree plan) schedule)

-- a schedule, and then so many steps of processor p
abbrev pub gone_on : List ℕ → ℕ → ℕ → List ℕ
gone_on schedule p k = schedule ++ replicate k p
