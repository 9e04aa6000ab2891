use Rattle.std.proofs.Common.{◌≡◌, ◌++◌, ap, sym, ◌∙◌, subst}
use Rattle.nest_tree.specs.View.{tree_of}
use Rattle.sync_plan.specs.Barriers.{barrier_plan}
use Rattle.maker_anchors.specs.Anchors.{maker_anchors}
use Rattle.plan_maker.specs.Asked.{AreRefuted, all_paths_asked, all_trips_asked}
use Rattle.plan_maker.proofs.Questions.{refuted-append}
use Rattle.plan_maker.proofs.LoopTrips.{cut_paths, cut_trips}
use Rattle.plan_maker.proofs.Made.{barriers_are}
use Rattle.plan_maker.proofs.maker.make_barrier.Goals as goal

pub returns : goal.returns
returns c =
    let tree = tree_of c.args.program.now in
    let cut = c.in_ok-cut.cut in
    let base = c.in_ok-base.base in
    let loops = c.in_ok-cut.certificates in
    let certificates = c.in_ok-certificates.certificates.items in
    let plan-is : c.in_ok-plan.plan ≡ barrier_plan base.cut base.anchors c.args.workers certificates = c.in_ok-plan.ensures ∙ ap (λ anchors. barrier_plan base.cut anchors c.args.workers certificates) c.into_vec.ensures in
    let anchors = maker_anchors tree cut.marks c.args.workers in
    let trips = cut_trips tree cut anchors c.args.workers base loops.trips.items c.in_ok-base.ensures.same c.in_ok-cut.ensures.trips in
    let paths = cut_paths tree cut anchors c.args.workers base loops.paths.items c.in_ok-base.ensures.same c.in_ok-cut.ensures.paths in
    let refuted = subst (AreRefuted (all_trips_asked tree base ++ all_paths_asked tree base)) (sym c.in_ok-certificates.ensures) (refuted-append (all_trips_asked tree base) (all_paths_asked tree base) loops.trips.items loops.paths.items trips paths) in
    barriers_are tree c.args.workers cut base c.in_ok-plan.plan certificates c.in_ok-base.ensures.same plan-is c.in_ok-base.ensures.fits refuted c.read_plan.ensures c.in_ok-cut.ensures.reasoned
