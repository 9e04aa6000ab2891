use Rattle.std.proofs.Common.{ap, ◌∙◌, map, subst, refl}
use Rattle.nest_tree.specs.View.{tree_of}
use Rattle.comm_system.specs.PhaseViews.{phase_seen}
use Rattle.maker_marks.specs.Cut.{cut_alone}
use Rattle.plan_maker.specs.Cut.{cut_asked, cut_paths_asked}
use Rattle.plan_maker.specs.Judged.{IsVerdict}
use Rattle.plan_maker.proofs.AloneAsked.{paths_judged, trips_judged}
use Rattle.plan_maker.proofs.Questions.{cause-behind, cause-front}
use Rattle.plan_maker.proofs.TriedCuts.{alone_tried}
use Rattle.plan_maker.proofs.loops.judge_try.Goals as goal

pub serial-requires : goal.serial-requires
serial-requires c =
    let tree = tree_of c.args.program.now in
    let n = c.args.number in
    let t = c.args.tried in
    record { tried = alone_tried tree n t c.args.privates c.in_ok-cut.cut c.args.program.now.formed c.requires.some c.requires.made (c.in_ok-cut.ensures ∙ ap (cut_alone tree n t) c.in_ok-own.ensures) }

pub returns-in-Kept : goal.returns-in-Kept
returns-in-Kept c =
    let tree = tree_of c.args.program.now in
    let plan = c.in_ok-plan.plan in
    let n = c.args.number in
    let t = c.args.tried in
    let vs = c.args.privates in
    let is = c.in_ok-cut.ensures ∙ ap (cut_alone tree n t) c.in_ok-own.ensures in
    let trips = trips_judged tree plan c.in_ok-cut.cut (map phase_seen c.as_slice.result.now) c.in_ok-plan.ensures.cut c.in_ok-plan.ensures.conditions (ap (map phase_seen) c.as_slice.ensures.value ∙ c.in_ok-phases.ensures.phases) n t vs is c.in_ok-trips.field-0 c.in_ok-trips.ensures in
    cause-front (cut_asked tree (cut_alone tree n t vs)) (cut_paths_asked tree (cut_alone tree n t vs)) c.in-Kept.cause (subst (IsVerdict (cut_asked tree (cut_alone tree n t vs))) c.in-Kept.is trips)

pub returns-in-Refuted-2 : goal.returns-in-Refuted-2
returns-in-Refuted-2 c =
    let tree = tree_of c.args.program.now in
    let plan = c.in_ok-plan.plan in
    let n = c.args.number in
    let t = c.args.tried in
    let vs = c.args.privates in
    let is = c.in_ok-cut.ensures ∙ ap (cut_alone tree n t) c.in_ok-own.ensures in
    let trips = trips_judged tree plan c.in_ok-cut.cut (map phase_seen c.as_slice.result.now) c.in_ok-plan.ensures.cut c.in_ok-plan.ensures.conditions (ap (map phase_seen) c.as_slice.ensures.value ∙ c.in_ok-phases.ensures.phases) n t vs is c.in_ok-trips.field-0 c.in_ok-trips.ensures in
    let paths = paths_judged tree plan c.in_ok-cut.cut (map phase_seen c.as_slice-2.result.now) c.in_ok-plan.ensures.cut c.in_ok-plan.ensures.conditions (ap (map phase_seen) c.as_slice-2.ensures.value ∙ c.in_ok-phases.ensures.phases) n t vs is c.in_ok-paths.field-0 c.in_ok-paths.ensures in (
      refl,
      refl,
      record {
        trips = subst (IsVerdict (cut_asked tree (cut_alone tree n t vs))) c.in-Refuted.is trips;
        paths = subst (IsVerdict (cut_paths_asked tree (cut_alone tree n t vs))) c.in-Refuted-2.is paths;
      },
    )

pub returns-in-Kept-2 : goal.returns-in-Kept-2
returns-in-Kept-2 c =
    let tree = tree_of c.args.program.now in
    let plan = c.in_ok-plan.plan in
    let n = c.args.number in
    let t = c.args.tried in
    let vs = c.args.privates in
    let is = c.in_ok-cut.ensures ∙ ap (cut_alone tree n t) c.in_ok-own.ensures in
    let trips = trips_judged tree plan c.in_ok-cut.cut (map phase_seen c.as_slice.result.now) c.in_ok-plan.ensures.cut c.in_ok-plan.ensures.conditions (ap (map phase_seen) c.as_slice.ensures.value ∙ c.in_ok-phases.ensures.phases) n t vs is c.in_ok-trips.field-0 c.in_ok-trips.ensures in
    let paths = paths_judged tree plan c.in_ok-cut.cut (map phase_seen c.as_slice-2.result.now) c.in_ok-plan.ensures.cut c.in_ok-plan.ensures.conditions (ap (map phase_seen) c.as_slice-2.ensures.value ∙ c.in_ok-phases.ensures.phases) n t vs is c.in_ok-paths.field-0 c.in_ok-paths.ensures in
    cause-behind (cut_asked tree (cut_alone tree n t vs)) (cut_paths_asked tree (cut_alone tree n t vs)) c.in-Refuted.trips.items c.in-Kept-2.cause (subst (IsVerdict (cut_asked tree (cut_alone tree n t vs))) c.in-Refuted.is trips)
    (subst (IsVerdict (cut_paths_asked tree (cut_alone tree n t vs))) c.in-Kept-2.is paths)
