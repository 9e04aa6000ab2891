use Rattle.std.proofs.Common.{◌-◌, ◌≡◌, ap, sym, subst, ◌∙◌, length, arith}
use Rattle.std.specs.Option.{MatchOption}
use Rattle.std.specs.Prelude.{min}
use Rattle.std.proofs.lemmas.Bool.{and_parts}
use Rattle.nest_tree.specs.Form.{reach_within}
use Rattle.nest_tree.specs.Tree.{param_values}
use Rattle.nest_tree.specs.WellFormed.{loops_of}
use Rattle.owner_partition.specs.Owners.{anchor_owner, owner_by}
use Rattle.owner_partition.specs.PhasesLeft.{phases_tree}
use Rattle.sync_plan.proofs.Fits.{IsGivenAnchor, producer_given, fit_parts}
use Rattle.turns.proofs.counters.owner_before.Goals as goal
use Rattle.turns.proofs.counters.owner_before.Goals.{In-Some}

given : (c : In-Some) → IsGivenAnchor (loops_of (phases_tree c.args.phases.now).items) (length (phases_tree c.args.phases.now).params) c.in-Some.anchor.now
given c = producer_given (phases_tree c.args.phases.now) c.args.plan.now (c.args.place - 1) c.args.kind.now c.in-Some.anchor.now c.args.phases.now.cursor.program.now.formed c.requires.fits c.requires.kind (sym c.in-Some.ensures)

pub owner-requires-clause-given : goal.owner-requires-clause-given
owner-requires-clause-given c =
    let tree = phases_tree c.args.phases.now in
    let form = c.in-Some.anchor.now.form in
    (and_parts (reach_within (loops_of tree.items) form.loops) (reach_within (length tree.params) form.params) (given (goal.at.owner-requires-clause-given c).In-Some).given).1

pub owner-requires-clause-places : goal.owner-requires-clause-places
owner-requires-clause-places c = (given (goal.at.owner-requires-clause-places c).In-Some).places

pub owner-requires-clause-some : goal.owner-requires-clause-some
owner-requires-clause-some c = (fit_parts (phases_tree c.args.phases.now) c.args.plan.now c.requires.fits).some

pub returns-in-Some : goal.returns-in-Some
returns-in-Some c = λ v last.
    let params = param_values (phases_tree c.args.phases.now) in
    let workers = c.args.plan.now.workers in
    subst (λ o. MatchOption o (c.owner.result ≡ 0) (λ w. c.owner.result ≡ min (anchor_owner c.in-Some.anchor.now workers w.loops params) workers)) last c.owner.ensures
    ∙ ap (λ o. min (owner_by o workers v.loops params) workers) c.in-Some.ensures

pub returns-in-None : goal.returns-in-None
returns-in-None c = λ v last.
    let params = param_values (phases_tree c.args.phases.now) in
    let workers = c.args.plan.now.workers in
    let none : 0 ≡ min 0 workers = omega arith in
    none ∙ ap (λ o. min (owner_by o workers v.loops params) workers) c.in-None.ensures
