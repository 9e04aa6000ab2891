-- Whether an access of its own cells comes next of a processor that runs an instance.
use Rattle.std.proofs.Common.{◌≡◌, ℕ, ◌-◌, ◌<◌, nat_lt, false, length, get_or, Option, Some, None, ◌∙◌, ap}
use Rattle.std.specs.Prelude.{slice_get}
use Rattle.std.specs.Option.{is_some, option_map}
use Rattle.nest_tree.specs.Layout.{cell_count}
use Rattle.nest_model.specs.Accesses.{store_of}
use Rattle.nest_model.specs.Memory.{assigned_value, line_of}
use Rattle.nest_walk.specs.Tables.{entries}
use Rattle.nest_walk.specs.declared.cursor.Stop.{Stop}
use Rattle.nest_walk.specs.declared.table.WorkCells.{WorkCells}
use Rattle.sync_plan.specs.Own.{own_of}
use Rattle.spmd_model.specs.Deeds.{last_deed, loading}
use Rattle.spmd_model.specs.Quiet.{quiet_next}
use Rattle.turns.specs.declared.turns.Next.TheVariants.{Work}
use Rattle.spmd_machine.specs.Machines.{ComesNext, IsMachine, LoadsNext, model_of, plan_in, shared_in, shown, tree_in}
use Rattle.spmd_machine.specs.declared.parts.Parts.{Parts}
use Rattle.spmd_machine.specs.declared.processor.Processor.{Processor}
use Rattle.spmd_machine.proofs.LoadSteps.{inside, inst, kept, loads_here, rest, turns_are}
use Rattle.spmd_machine.proofs.OwnPlaces.{own_quiet}
use Rattle.spmd_machine.proofs.Quiets.{quiet_is}
use Rattle.spmd_machine.proofs.Settles.{is_quiet_deed}
use Rattle.spmd_machine.proofs.Works.{at_own, left_end, left_first}

module _ (m : Parts) (ready : IsMachine m) (p : ℕ) (x : Processor) (lt : p < length m.processors.items) (read : x ≡ get_or m.processors.items p x) (stop : Stop) (next : ComesNext m p (Work stop)) (cells : WorkCells) (at : slice_get (entries m.table) (stop.first - 1) ≡ Some cells) where
  pub load_quiet : (cell : ℕ) (o : Option ℕ) → LoadsNext m p stop (Some cell) → (own_of (tree_in m) (plan_in m) x.turns.place).slot cell ≡ o → nat_lt 0 (quiet_next (model_of m) (shared_in m) (shown m) p) ≡ is_some o
  load_quiet cell o loads slot =
      let (later, left) = left_first m ready p x (kept m ready p x lt read stop next) stop (inst m ready p x lt read stop next) (rest m ready p x lt read stop next) (turns_are m ready p x lt read stop next) cells at cell (loads_here m ready p x lt read stop next (Some cell) loads) in
      quiet_is m ready p x lt read (loading (at_own m ready p x (kept m ready p x lt read stop next) stop (inst m ready p x lt read stop next) (rest m ready p x lt read stop next) (turns_are m ready p x lt read stop next) cell)) later left
      ∙ own_quiet (tree_in m) (plan_in m) x.turns.place p cell o (inside m ready p x lt read stop next cells at cell loads) slot

  module _ (loaded : LoadsNext m p stop None) where
    ends_so : (o : Option ℕ) → store_of (tree_in m) (inst m ready p x lt read stop next).instance ≡ o →
        nat_lt 0 (quiet_next (model_of m) (shared_in m) (shown m) p)
        ≡ is_quiet_deed (shared_in m) (last_deed (option_map (at_own m ready p x (kept m ready p x lt read stop next) stop (inst m ready p x lt read stop next) (rest m ready p x lt read stop next) (turns_are m ready p x lt read stop next)) o) false (assigned_value (tree_in m) (inst m ready p x lt read stop next).instance) (line_of (tree_in m) (inst m ready p x lt read stop next).instance))
    ends_so o is =
        let own = at_own m ready p x (kept m ready p x lt read stop next) stop (inst m ready p x lt read stop next) (rest m ready p x lt read stop next) (turns_are m ready p x lt read stop next) in
        let i = (inst m ready p x lt read stop next).instance in
        let (later, left) = left_end m ready p x (kept m ready p x lt read stop next) stop (inst m ready p x lt read stop next) (rest m ready p x lt read stop next) (turns_are m ready p x lt read stop next) cells at (loads_here m ready p x lt read stop next None loaded) in
        quiet_is m ready p x lt read (last_deed (option_map own (store_of (tree_in m) i)) false (assigned_value (tree_in m) i) (line_of (tree_in m) i)) later left
        ∙ ap (λ q. is_quiet_deed (shared_in m) (last_deed (option_map own q) false (assigned_value (tree_in m) i) (line_of (tree_in m) i))) is

    pub store_quiet : (k : ℕ) (o : Option ℕ) → store_of (tree_in m) (inst m ready p x lt read stop next).instance ≡ Some k → k < cell_count (tree_in m) → (own_of (tree_in m) (plan_in m) x.turns.place).slot k ≡ o → nat_lt 0 (quiet_next (model_of m) (shared_in m) (shown m) p) ≡ is_some o
    store_quiet k o is below slot = ends_so (Some k) is ∙ own_quiet (tree_in m) (plan_in m) x.turns.place p k o below slot

    pub print_quiet : store_of (tree_in m) (inst m ready p x lt read stop next).instance ≡ None → nat_lt 0 (quiet_next (model_of m) (shared_in m) (shown m) p) ≡ false
    print_quiet is = ends_so None is
