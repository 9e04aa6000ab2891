-- What memory is behind a job, and behind one that stands for an instance of the program.
use Rattle.std.proofs.Common.{◌≡◌, ℕ, ℤ, false, List, map, Option, Some, None, refl}
use Rattle.nest_tree.specs.Tree.{Tree}
use Rattle.nest_model.specs.Memory.{assigned_value, cell_value, loaded_in, memory_after, with_store}
use Rattle.nest_model.specs.Accesses.{store_of}
use Rattle.owner_partition.specs.Phases.{Execution}
use Rattle.sync_plan.specs.declared.plan.Plan.{Plan}
use Rattle.spmd_model.specs.Cells.{with_change}
use Rattle.spmd_model.specs.Timelines.{Job}
use Rattle.spmd_model.specs.Planned.{job_of}

abbrev pub job_behind : List ℤ → Job → List ℤ
job_behind memory j = with_change memory j.store j.adds (j.assigned (map (cell_value memory) j.loads))

same_change : (memory : List ℤ) (store : Option ℕ) (v : ℤ) → with_change memory store false v ≡ with_store memory store v
same_change memory None v = refl
same_change memory (Some cell) v = refl

pub behind_instance : (tree : Tree) (plan : Plan) (memory : List ℤ) (x : Execution) → job_behind memory (job_of tree plan x) ≡ memory_after tree memory x.instance
behind_instance tree plan memory x = same_change memory (store_of tree x.instance) (assigned_value tree x.instance (loaded_in tree memory x.instance))
