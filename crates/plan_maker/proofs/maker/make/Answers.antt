use Rattle.std.proofs.Common.{refl}
use Rattle.nest_tree.specs.View.{tree_of}
use Rattle.plan_checker.proofs.Certified.{fit_shape}
use Rattle.plan_maker.specs.declared.maker.Weakest.{Weakest}
use Rattle.plan_maker.specs.declared.reasons.Reasons.{Reasons}
use Rattle.maker_anchors.specs.Anchors.{maker_anchors}
use Rattle.plan_maker.proofs.LoopTrips.{cut_paths, cut_trips}
use Rattle.plan_maker.proofs.Made.{made_is}
use Rattle.plan_maker.proofs.maker.make.Goals as goal

pub invariant_of-problem : goal.invariant_of-problem
invariant_of-problem c = record { shape = fit_shape (tree_of c.args.program.now) c.in_ok-base.base c.in_ok-base.ensures.fits }

pub find_weakest-requires-clause-trips : goal.find_weakest-requires-clause-trips
find_weakest-requires-clause-trips c =
    let tree = tree_of c.args.program.now in
    let cut = c.in_ok-cut.cut in
    cut_trips tree cut (maker_anchors tree cut.marks c.args.workers) c.args.workers c.in_ok-base.base c.in_ok-cut.certificates.trips.items c.in_ok-base.ensures.same c.in_ok-cut.ensures.trips

pub find_weakest-requires-clause-paths : goal.find_weakest-requires-clause-paths
find_weakest-requires-clause-paths c =
    let tree = tree_of c.args.program.now in
    let cut = c.in_ok-cut.cut in
    cut_paths tree cut (maker_anchors tree cut.marks c.args.workers) c.args.workers c.in_ok-base.base c.in_ok-cut.certificates.paths.items c.in_ok-base.ensures.same c.in_ok-cut.ensures.paths

pub returns : goal.returns
returns c =
    let tree = tree_of c.args.program.now in
    let base = c.in_ok-base.base in
    let w : Weakest = c.in_ok-kinds.field-0 in
    let reasons : Reasons = record { loops = c.in_ok-cut.loops; phases = w.reasons } in
    made_is tree c.args.workers c.in_ok-cut.cut base w c.with-plan.result reasons c.args.program.now.formed c.in_ok-base.ensures.same c.with-plan.ensures c.in_ok-base.ensures.fits c.in_ok-kinds.ensures c.read_plan.ensures c.in_ok-cut.ensures.reasoned c.in_ok-cut.ensures.loops refl
