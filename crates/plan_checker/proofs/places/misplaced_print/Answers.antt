use Rattle.std.proofs.Common.{◌≡◌, ◌+◌, ◌-◌, Some, drop, if◌then◌else◌, ap, sym, ◌∙◌, arith}
use Rattle.std.specs.Prelude.{slice_get}
use Rattle.nest_tree.specs.View.{statement_of, tree_of}
use Rattle.owner_partition.specs.StaticPhases.{loops_round}
use Rattle.sync_plan.specs.Fit.{misplaced_print}
use Rattle.sync_plan.specs.Shape.{static_phases}
use Rattle.plan_checker.proofs.Prints.{prints-end, prints-past, prints-step}
use Rattle.plan_checker.proofs.places.misplaced_print.Goals as goal
use Rattle.plan_checker.proofs.places.misplaced_print.Goals.{After-is_misplaced}

pub returns-in_default : goal.returns-in_default
returns-in_default c =
    let text = static_phases (tree_of c.args.program.now) c.args.cut.now.marks in
    let i = c.loop-place.place in
    let here : i + 1 - 1 ≡ i = omega arith in
    sym (prints-past (i + 1) c.args.cut.now.marks text c.args.anchors.now i (sym (ap (slice_get text) here) ∙ c.in_default.ensures)) ∙ c.loop-place.invariant

-- this phase, and those behind it
step : (c : After-is_misplaced) →
    let text = static_phases (tree_of c.args.program.now) c.args.cut.now.marks in
    let i = c.loop-place.place in
    misplaced_print (i + 1) c.args.cut.now.marks (drop i text) (drop i c.args.anchors.now) ≡ (if c.is_misplaced.result then Some (i + 1) else misplaced_print (i + 1 + 1) c.args.cut.now.marks (drop (i + 1) text) (drop (i + 1) c.args.anchors.now))
step c =
    let marks = c.args.cut.now.marks in
    let text = static_phases (tree_of c.args.program.now) marks in
    let i = c.loop-place.place in
    let phase = c.in-Some.phase in
    let a = c.index-anchors-place.result in
    let here : i + 1 - 1 ≡ i = omega arith in
    let is = c.is_misplaced.ensures in
    prints-step (i + 1) marks text c.args.anchors.now i (record { what = statement_of phase.item.now; around = loops_round phase }) a (sym (ap (slice_get text) here) ∙ c.in-Some.ensures) c.loop-place-test.true c.index-anchors-place.is
    ∙ ap (λ b. if b then Some (i + 1) else misplaced_print (i + 1 + 1) marks (drop (i + 1) text) (drop (i + 1) c.args.anchors.now)) (sym is)

pub returns-then-is_misplaced : goal.returns-then-is_misplaced
returns-then-is_misplaced c =
    let text = static_phases (tree_of c.args.program.now) c.args.cut.now.marks in
    let i = c.loop-place.place in
    sym (step (goal.at.returns-then-is_misplaced c).After-is_misplaced ∙ ap (λ b. if b then Some (i + 1) else misplaced_print (i + 1 + 1) c.args.cut.now.marks (drop (i + 1) text) (drop (i + 1) c.args.anchors.now)) c.if-is_misplaced.true) ∙ c.loop-place.invariant

pub loop-place-preserved : goal.loop-place-preserved
loop-place-preserved c =
    let text = static_phases (tree_of c.args.program.now) c.args.cut.now.marks in
    let i = c.loop-place.place in
    sym (step (goal.at.loop-place-preserved c).After-is_misplaced ∙ ap (λ b. if b then Some (i + 1) else misplaced_print (i + 1 + 1) c.args.cut.now.marks (drop (i + 1) text) (drop (i + 1) c.args.anchors.now)) c.if-is_misplaced.false) ∙ c.loop-place.invariant

pub returns : goal.returns
returns c =
    let i = c.loop-place.place in
    sym (prints-end (i + 1) c.args.cut.now.marks (static_phases (tree_of c.args.program.now) c.args.cut.now.marks) c.args.anchors.now i c.loop-place-test.false) ∙ c.loop-place.invariant
