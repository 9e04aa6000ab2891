use Rattle.std.proofs.Common.{◌<◌, length, sym, ◌∙◌, ap, subst, arith}
use Rattle.std.proofs.lemmas.List.{drop_all}
use Rattle.nest_tree.specs.View.{tree_of}
use Rattle.nest_tree.specs.declared.program.Program.{Program}
use Rattle.nest_model.specs.Memory.{last_memory}
use Rattle.owner_partition.specs.Phases.{phases}
use Rattle.sync_plan.proofs.Fits.{fit_parts}
use Rattle.spmd_model.specs.declared.style.Style.TheVariants.{Arrive}
use Rattle.crossbeam_utils.specs.declared.cache_padded.CachePadded.{CachePadded}
use Rattle.crossbeam_utils.specs.Padded.{padded_value}
use Rattle.spmd_model.specs.PlanProtocols.{printed_by}
use Rattle.fork_join.specs.Workers.{IsAt}
use Rattle.fork_join.specs.declared.worker.Worker.{Worker}
use Rattle.fork_join.proofs.Running.{output_is}
use Rattle.fork_join.proofs.Shutting.{shut_place}
use Rattle.fork_join.proofs.receipt.Receipt.of.Goals as goal

pub invariant_of-receipt : goal.invariant_of-receipt
invariant_of-receipt c = c.requires.memory ∙ ap (λ (p : Program). last_memory (tree_of p)) (sym c.of-program.ensures)

pub returns-clause-output : goal.returns-clause-output
returns-clause-output c =
    let tree = tree_of c.args.lent.program.now in
    let plan = c.args.lent.plan.now in
    let safe = c.requires.safe in
    let ps = phases tree plan.cut.marks in
    let count = c.requires.count in
    let some : 0 < plan.workers = omega (arith, (fit_parts tree plan safe.fits).some) in
    let first = c.swap_remove.result in
    let w = c.into_inner.result in
    let at = c.requires.at 0 first (omega (arith, count, some)) in
    let here = subst (IsAt tree plan (length ps) 0) (sym (c.into_inner.ensures ∙ ap (λ (x : CachePadded Worker). padded_value x) c.swap_remove.ensures.value)) at in
    let runs = here.stands.runs in
    c.into_output-output.ensures ∙ runs.output ∙ ap (printed_by Arrive tree plan 0) (shut_place tree plan safe (length ps) 0 some w.done.done w.turns w.executor runs here.shut) ∙ output_is tree plan safe (length ps) some (drop_all (length ps) ps (omega arith))
