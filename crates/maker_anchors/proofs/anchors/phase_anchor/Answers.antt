use Rattle.std.proofs.Common.{◌≡◌, ◌-◌, ℕ, List, [], true, ap, sym, ◌∙◌}
use Rattle.nest_tree.specs.View.{statement_of, tree_of}
use Rattle.nest_tree.specs.WellFormed.{loops_of}
use Rattle.owner_partition.specs.StaticPhases.{loops_round}
use Rattle.sync_plan.specs.Shape.{own_loops}
use Rattle.maker_anchors.specs.declared.scope.Scope.{Scope}
use Rattle.plan_shape.specs.Named.{with_own}
use Rattle.maker_anchors.specs.Anchors.{placed_anchor}
use Rattle.maker_anchors.specs.Scopes.{constants_at, loops_at}
use Rattle.maker_anchors.proofs.Found.{sought_good}
use Rattle.maker_anchors.proofs.Phases.{found_is, phase_is}
use Rattle.sync_plan.proofs.NamedLoops.{are_numbers}
use Rattle.maker_anchors.proofs.Within.{allowed_within, good_given, own_numbered}
use Rattle.maker_anchors.proofs.anchors.phase_anchor.Goals as goal
use Rattle.maker_anchors.proofs.anchors.phase_anchor.Goals.{After-own_loop}

-- the loops that the phase's anchor may name
loops : (c : After-own_loop) (around : List ℕ) → own_loops c.args.cut.now.marks (statement_of c.args.phase.now.item.now) around ≡ with_own c.own_loop.result around
loops c around = c.own_loop.ensures around

within : (c : After-own_loop) → are_numbers (loops_of (tree_of c.args.program.now).items) (with_own c.own_loop.result (loops_round c.args.phase.now)) ≡ true
within c =
    let n = loops_of (tree_of c.args.program.now).items in
    ap (are_numbers n) (sym (loops c (loops_round c.args.phase.now)))
    ∙ allowed_within (tree_of c.args.program.now) c.args.cut.now.marks (c.args.number - 1) (record { what = statement_of c.args.phase.now.item.now; around = loops_round c.args.phase.now }) c.args.program.now.formed c.requires.phase

scope : After-own_loop → Scope
scope c = record { program = c.args.program; phase = c.args.phase; own = c.own_loop.result; workers = c.args.workers }

pub found_anchor-requires-clause-own : goal.found_anchor-requires-clause-own
found_anchor-requires-clause-own c =
    let a = goal.at.found_anchor-requires-clause-own c in
    own_numbered (loops_of (tree_of c.args.program.now).items) c.own_loop.result (loops_round c.args.phase.now) (within a.After-own_loop)

pub placed-requires : goal.placed-requires
unfolding scope
placed-requires c =
    let a = (goal.at.placed-requires c).After-own_loop in
    let what = statement_of c.args.phase.now.item.now in
    let found = sym (found_is (scope a) c.args.cut.now.marks c.args.number what (loops a [])) ∙ sym c.in_ok-anchor.ensures ∙ c.in-Some.is in
    let good = sought_good (tree_of c.args.program.now) c.args.cut.now.marks c.args.workers c.args.number (loops_at (scope a)) what c.in-Some.anchor found in
    record { given = good_given (loops_of (tree_of c.args.program.now).items) (constants_at (scope a)) (loops_at (scope a)) c.in-Some.anchor (within a) good }

pub returns-in-Some : goal.returns-in-Some
unfolding scope
returns-in-Some c =
    let a = (goal.at.returns-in-Some c).After-own_loop in
    let tree = tree_of c.args.program.now in
    let what = statement_of c.args.phase.now.item.now in
    let is = phase_is (scope a) c.args.cut.now.marks c.args.number what (loops_round c.args.phase.now) (loops a (loops_round c.args.phase.now)) (loops a []) (sym c.has_print.ensures ∙ c.if-has_print.false) in
    c.placed.ensures ∙ ap (placed_anchor tree c.args.cut.now.marks c.args.workers c.args.number) (sym c.in-Some.is ∙ c.in_ok-anchor.ensures) ∙ sym is

pub returns-in-None : goal.returns-in-None
unfolding scope
returns-in-None c =
    let a = (goal.at.returns-in-None c).After-own_loop in
    let tree = tree_of c.args.program.now in
    let what = statement_of c.args.phase.now.item.now in
    let is = phase_is (scope a) c.args.cut.now.marks c.args.number what (loops_round c.args.phase.now) (loops a (loops_round c.args.phase.now)) (loops a []) (sym c.has_print.ensures ∙ c.if-has_print.false) in
    c.first_processor-in-None.ensures ∙ ap (placed_anchor tree c.args.cut.now.marks c.args.workers c.args.number) (sym c.in-None.is ∙ c.in_ok-anchor.ensures) ∙ sym is
