use Rattle.std.proofs.Common.{ap, sym, ◌∙◌, subst, arith}
use Rattle.std.specs.Prelude.{replicate}
use Rattle.std.proofs.lemmas.Result.{IfOk-weaker}
use Rattle.nest_tree.specs.View.{tree_of}
use Rattle.sync_plan.specs.Barriers.{barrier_plan}
use Rattle.sync_plan.specs.Fit.{IsFit}
use Rattle.sync_plan.specs.Shape.{static_phases}
use Rattle.maker_anchors.specs.Anchors.{first_processor}
use Rattle.plan_maker.proofs.AnchorsFit.{AreFineAnchors, barrier_fits, first-all}
use Rattle.plan_maker.proofs.CutFits.{cut_fits}
use Rattle.plan_maker.proofs.loops.serial.Goals as goal

pub returns-clause-fits : goal.returns-clause-fits
returns-clause-fits c =
    let tree = tree_of c.args.program.now in
    let cut = c.args.cut in
    let text = static_phases tree cut.marks in
    let anchors = c.in_ok-anchors.anchors.items in
    let fine = subst (AreFineAnchors tree cut.marks 1 1 text) (sym (c.in_ok-anchors.ensures ∙ ap (λ n. replicate n first_processor) c.count.ensures)) (first-all tree cut.marks 1 1 text) in
    let fits = barrier_fits tree cut anchors 1 (cut_fits tree cut c.args.program.now.formed c.requires.tried) fine (omega arith) (omega arith) in
    IfOk-weaker c.all_barrier.result _ (IsFit tree) (λ plan is. subst (IsFit tree) (sym (is ∙ ap (barrier_plan cut anchors 1) c.new.ensures.items)) fits) c.all_barrier.ensures
