use Rattle.std.proofs.Common.{◌≡◌, ◌<◌, ℕ, List, length, sym, ◌∙◌, ap}
use Rattle.std.specs.Prelude.{Some, slice_get}
use Rattle.std.proofs.lemmas.List.{length-map}
use Rattle.owner_partition.specs.Phases.{phases}
use Rattle.spmd_model.specs.Deeds.{Deed, deed_of}
use Rattle.spmd_model.specs.Machines.{machine_by}
use Rattle.spmd_model.specs.MachineDeeds.{deeds_by}
use Rattle.spmd_model.specs.Acts.{acts_of}
use Rattle.spmd_model.proofs.MachineDeeds.{acts_do}
use Rattle.spmd_model.specs.PlanProtocols.{acts_by}
use Rattle.spmd_workers.specs.Places.{deeds_at, plan_at, style_at, tree_at}
use Rattle.spmd_workers.proofs.laws.laws_of.Goals as goal

pub returns : goal.returns
unfolding deeds_at acts_by
returns c =
    let h = c.args.cells.now in
    let style = style_at h in
    let tree = tree_at h in
    let plan = plan_at h in
    let run = c.laws.ensures.runnable in
    let values = c.values_in_styles.ensures in
    let turns : (p : ℕ) → p < plan.workers → deeds_at h p ≡ deeds_by style tree plan p 1 0 (phases tree plan.cut.marks) =
    λ p lt. c.turns_are_acts.ensures style tree plan p run.formed run.limits run.fits run.ranges lt ∙ acts_do style tree plan p run.formed run.fits lt in
    let there : (p n : ℕ) (d : Deed) → p < plan.workers → slice_get (deeds_at h p) n ≡ Some d → slice_get (deeds_by style tree plan p 1 0 (phases tree plan.cut.marks)) n ≡ Some d =
    λ p n d lt e. ap (λ (l : List Deed). slice_get l n) (sym (turns p lt)) ∙ e in
    record {
      run = run;
      laws = c.laws.ensures.laws;
      acts = λ p n d lt e. values.acts style tree plan p n d run.formed run.fits lt (there p n d lt e);
      count = λ p lt. ap (λ (l : List Deed). length l) (c.turns_are_acts.ensures style tree plan p run.formed run.limits run.fits run.ranges lt) ∙ length-map (acts_of (machine_by style tree plan) p) (deed_of (machine_by style tree plan));
      stored = λ p n cell value lt e. values.stored style tree plan p n cell value run.formed run.fits lt (there p n _ lt e);
      added = λ p n cell value lt e. values.added style tree plan p n cell value run.formed run.fits lt (there p n _ lt e);
      printed = λ p n line lt e. values.printed style tree plan p n line run.formed run.fits lt (there p n _ lt e);
      own = λ p n place cell above e. c.own_cells_in_styles.ensures style tree plan p n place cell run.formed run.fits run.ranges above e;
      arrived = λ p n on wanted lt e g. c.arrivals_in_styles.ensures.awaits style tree plan p n on wanted lt e g;
    }
