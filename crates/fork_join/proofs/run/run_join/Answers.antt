use Rattle.std.proofs.Common.{◌≡◌, List, length, sym, ◌∙◌, ap, subst}
use Rattle.nest_tree.specs.View.{tree_of}
use Rattle.seq_meaning.proofs.RunSteps.{written_back}
use Rattle.owner_partition.specs.Phases.{phases}
use Rattle.spmd_model.specs.declared.style.Style.TheVariants.{Arrive}
use Rattle.crossbeam_utils.specs.declared.cache_padded.CachePadded.{CachePadded}
use Rattle.fork_join.specs.Workers.{AreAt}
use Rattle.fork_join.specs.declared.worker.Worker.{Worker}
use Rattle.fork_join.proofs.Running.{safe_of}
use Rattle.fork_join.proofs.run.run_join.Goals as goal

pub workers_of-requires-clause-safe : goal.workers_of-requires-clause-safe
workers_of-requires-clause-safe g c =
    let tree = tree_of c.args.program.now in
    let plan = c.args.plan.now in
    let r = c.requires in
    let values = c.values_in_styles.ensures in
    safe_of tree plan (c.laws_in_styles.ensures Arrive tree plan c.args.program.now.formed c.args.program.now.limits r.ranges r.fits r.ordered) c.args.program.now.formed c.args.program.now.limits r.ranges r.fits (λ p n d below at. values.acts Arrive tree plan p n d c.args.program.now.formed r.fits below at)
    (λ p n cell value below at. values.stored Arrive tree plan p n cell value c.args.program.now.formed r.fits below at) (λ p n cell value below at. values.added Arrive tree plan p n cell value c.args.program.now.formed r.fits below at)
    (λ p n line below at. values.printed Arrive tree plan p n line c.args.program.now.formed r.fits below at) (λ p n place cell far at. c.own_cells_in_styles.ensures Arrive tree plan p n place cell c.args.program.now.formed r.fits r.ranges far at)

pub execute-requires-clause-safe : goal.execute-requires-clause-safe
execute-requires-clause-safe g c κs within =
    let tree = tree_of c.args.program.now in
    let plan = c.args.plan.now in
    let r = c.requires in
    let values = c.values_in_styles.ensures in
    safe_of tree plan (c.laws_in_styles.ensures Arrive tree plan c.args.program.now.formed c.args.program.now.limits r.ranges r.fits r.ordered) c.args.program.now.formed c.args.program.now.limits r.ranges r.fits (λ p n d below at. values.acts Arrive tree plan p n d c.args.program.now.formed r.fits below at)
    (λ p n cell value below at. values.stored Arrive tree plan p n cell value c.args.program.now.formed r.fits below at) (λ p n cell value below at. values.added Arrive tree plan p n cell value c.args.program.now.formed r.fits below at)
    (λ p n line below at. values.printed Arrive tree plan p n line c.args.program.now.formed r.fits below at) (λ p n place cell far at. c.own_cells_in_styles.ensures Arrive tree plan p n place cell c.args.program.now.formed r.fits r.ranges far at)

pub of-requires-clause-safe : goal.of-requires-clause-safe
of-requires-clause-safe g c =
    let tree = tree_of c.args.program.now in
    let plan = c.args.plan.now in
    let r = c.requires in
    let values = c.values_in_styles.ensures in
    safe_of tree plan (c.laws_in_styles.ensures Arrive tree plan c.args.program.now.formed c.args.program.now.limits r.ranges r.fits r.ordered) c.args.program.now.formed c.args.program.now.limits r.ranges r.fits (λ p n d below at. values.acts Arrive tree plan p n d c.args.program.now.formed r.fits below at)
    (λ p n cell value below at. values.stored Arrive tree plan p n cell value c.args.program.now.formed r.fits below at) (λ p n cell value below at. values.added Arrive tree plan p n cell value c.args.program.now.formed r.fits below at)
    (λ p n line below at. values.printed Arrive tree plan p n line c.args.program.now.formed r.fits below at) (λ p n place cell far at. c.own_cells_in_styles.ensures Arrive tree plan p n place cell c.args.program.now.formed r.fits r.ranges far at)

pub of-requires-clause-count : goal.of-requires-clause-count
of-requires-clause-count g c =
    let made = c.in_ok-workers.workers in
    let ws = c.execute.new.workers in
    let long : length ws ≡ length made.items = c.execute.ensures.count ∙ ap (λ (l : List (CachePadded Worker)). length l) c.deref_mut.ensures.value in
    ap (λ (l : List (CachePadded Worker)). length l) (written_back made.len ws made.items made.ok.0 long) ∙ long ∙ c.in_ok-workers.ensures.count

pub of-requires-clause-at : goal.of-requires-clause-at
of-requires-clause-at g c =
    let tree = tree_of c.args.program.now in
    let plan = c.args.plan.now in
    let made = c.in_ok-workers.workers in
    let ws = c.execute.new.workers in
    let long : length ws ≡ length made.items = c.execute.ensures.count ∙ ap (λ (l : List (CachePadded Worker)). length l) c.deref_mut.ensures.value in
    subst (AreAt tree plan (length (phases tree plan.cut.marks))) (sym (written_back made.len ws made.items made.ok.0 long)) c.execute.ensures.at
