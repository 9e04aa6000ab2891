use Rattle.std.proofs.Common.{length, Some, None, if◌then◌else◌, ap, sym, ◌∙◌, arith}
use Rattle.nest_tree.specs.Tree.{param_values}
use Rattle.nest_tree.specs.View.{statements_from, tree_of}
use Rattle.nest_tree.proofs.FirstLimits.{kept, read-given, read-wide}
use Rattle.nest_model.specs.Visits.{stops_of}
use Rattle.nest_walk.specs.Walks.{enters_but}
use Rattle.owner_partition.specs.Placement.{misplaced_at, misplaced_within}
use Rattle.owner_partition.proofs.Places.{few_phases, form_given, read_ends, values}
use Rattle.owner_partition.proofs.placement.check_from.Goals as goal

pub seek-requires-clause-given : goal.seek-requires-clause-given
seek-requires-clause-given c =
    read-given c.args.program.now c.args.ends.now c.deref-2.result.now c.deref.result.now c.requires.ends c.deref-2.ensures.value c.deref.ensures.value c.args.program.now.formed

pub seek-requires-clause-narrow : goal.seek-requires-clause-narrow
seek-requires-clause-narrow c =
    read-wide c.args.program.now c.args.ends.now c.deref-2.result.now c.deref.result.now c.requires.ends c.deref-2.ensures.value c.deref.ensures.value ∙ (kept (tree_of c.args.program.now) c.args.program.now.limits).forms

pub seek-requires-clause-counted : goal.seek-requires-clause-counted
seek-requires-clause-counted c =
    let enters = enters_but c.closed.result.now in
    omega (arith, few_phases (tree_of c.args.program.now) enters c.args.program.now.formed, ap (λ xs. stops_of enters (statements_from xs)) c.deref.ensures.value)

pub check_interval-requires : goal.check_interval-requires
check_interval-requires c =
    form_given c.args.program.now c.args.anchor.now.form c.seek.new.ends c.deref-then-seek.result.now c.args.program.now.formed (c.seek.ensures.long ∙ ap length c.requires.ends) c.deref-then-seek.ensures.value c.requires.given

pub returns-then-seek : goal.returns-then-seek
returns-then-seek c =
    let p = c.args.program.now in
    let a = c.args.anchor.now in
    let found = ap (λ b. if b then Some c.seek.new.ends else None) (sym c.if-seek.true) ∙ sym c.seek.ensures.ends
    ∙ read_ends p c.args.cut.now.marks c.closed.result.now c.args.ends.now c.deref-2.result.now c.deref.result.now c.saturating_sub-place.result c.args.phase c.closed.ensures c.requires.ends c.deref-2.ensures.value c.deref.ensures.value c.saturating_sub-place.ensures in
    c.check_interval.ensures
    ∙ ap (λ vs. misplaced_within vs c.args.workers c.args.phase a c.seek.new.ends) (values p c.deref-then-seek.result.now c.deref-then-seek.ensures.value)
    ∙ ap (misplaced_at (param_values (tree_of p)) c.args.workers c.args.phase a) found

pub returns-else-seek : goal.returns-else-seek
returns-else-seek c =
    let p = c.args.program.now in
    let a = c.args.anchor.now in
    let found = ap (λ b. if b then Some c.seek.new.ends else None) (sym c.if-seek.false) ∙ sym c.seek.ensures.ends
    ∙ read_ends p c.args.cut.now.marks c.closed.result.now c.args.ends.now c.deref-2.result.now c.deref.result.now c.saturating_sub-place.result c.args.phase c.closed.ensures c.requires.ends c.deref-2.ensures.value c.deref.ensures.value c.saturating_sub-place.ensures in
    ap (misplaced_at (param_values (tree_of p)) c.args.workers c.args.phase a) found
