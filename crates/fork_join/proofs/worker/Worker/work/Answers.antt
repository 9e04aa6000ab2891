use mathlib.Core.Logic.{∥∥₁_map}
use Rattle.std.proofs.Common.{refl, sym, subst}
use Rattle.nest_tree.specs.View.{tree_of}
use Rattle.instance_runs.specs.declared.progress.Progress.{Progress}
use Rattle.fork_join.specs.Joins.{IsAlone}
use Rattle.fork_join.specs.StoreLists.{AreKept, cells_of, entries_of}
use Rattle.fork_join.specs.declared.stores.Stores.{Stores}
use Rattle.fork_join.proofs.Working.{alone_first, its_cells, its_own, worked}
use Rattle.fork_join.proofs.worker.Worker.work.Goals as goal

pub invariant_of-overlay : goal.invariant_of-overlay
invariant_of-overlay c =
    let w = c.args.self.now in
    let tree = tree_of w.program.now in
    let plan = w.plan.now in
    let p = w.processor in
    let n = c.args.behind in
    let memory = c.args.memory.now in
    let begun = c.requires.begun in
    let stands = begun.stands in
    let stores = sym c.replace.ensures.value in
    let done = sym c.replace-2.ensures.value in
    let first = ∥∥₁_map c.requires.lawful (λ lawful. alone_first tree plan p n memory (entries_of w.stores) w.own (cells_of w.stores) w.done.done c.requires.safe c.requires.below lawful begun.none stands.holds stands.cells begun.place) in
    record {
      goes = subst (λ (s : Stores). ∥ IsAlone tree plan p n memory (entries_of s) w.own (cells_of s) c.replace-2.result.done ∥₁) stores
          (subst (λ (d : Progress). ∥ IsAlone tree plan p n memory (entries_of w.stores) w.own (cells_of w.stores) d.done ∥₁) done first);
      kept_stores = subst AreKept stores stands.kept;
    }

pub returns : goal.returns
returns c =
    let w = c.args.self.now in
    let tree = tree_of w.program.now in
    let plan = w.plan.now in
    let p = w.processor in
    let n = c.args.behind in
    let memory = c.args.memory.now in
    let o = c.execute.new.overlay in
    let kept = c.execute.ensures.kept in
    let runs = c.execute.ensures.runs in
    record {
      stands = record {
        program = refl;
        plan_is = refl;
        processor = refl;
        runs = runs;
        kept = o.kept_stores;
        cells = its_cells tree plan n p memory o kept;
        holds = its_own tree plan n p memory o kept;
      };
      goes = worked tree plan n p memory o kept;
    }
