use Rattle.std.proofs.Common.{length, ap, sym, ◌∙◌}
use Rattle.std.proofs.lemmas.List.{length-map}
use Rattle.nest_tree.specs.Layout.{first_cell}
use Rattle.nest_tree.specs.View.{statement_of}
use Rattle.nest_model.specs.Instances.{Instance}
use Rattle.nest_walk.proofs.PlacedWorks.{instance_at}
use Rattle.sync_plan.specs.Own.{own_loop}
use Rattle.own_cells.specs.OwnCells.{assigned_place, place_assigned}
use Rattle.turns.specs.CountersLeft.{counters_tree}
use Rattle.turns.specs.Turns.{mark_first, mark_place}
use Rattle.turns.specs.TurnsLeft.{standing, turns_plan, turns_rounds, turns_tree}
use Rattle.turns.proofs.KnownOwn.{none_at, nothing_marked}
use Rattle.turns.proofs.turns.Turns.mark.Goals as goal

pub returns-then-not-self-clause-marked : goal.returns-then-not-self-clause-marked
returns-then-not-self-clause-marked c = λ at.
    let s = c.args.self.now in
    sym (nothing_marked (turns_tree s) (turns_plan s) (standing s) at.instance (none_at (turns_tree s) (turns_plan s) s.place (sym c.requires.sound.has ∙ c.if-not-self.true)))

pub returns-clause-marked : goal.returns-clause-marked
returns-clause-marked c = λ at.
    let s = c.args.self.now in
    let own = own_loop (turns_tree s) (turns_plan s) s.place in
    let i = instance_at (counters_tree s.counters) (turns_rounds s) c.args.stop.first (statement_of c.args.stop.item.now) at.instance at.is in
    let many = c.privates.ensures ∙ ap length c.requires.sound.own.cells.private_cells ∙ length-map own.privates (first_cell (turns_tree s)) in
    let place = c.assigned_by-place.ensures ∙ ap (λ us. assigned_place us (statement_of c.args.stop.item.now)) c.requires.sound.own.cells.sums ∙ ap (assigned_place own.sums) i.is ∙ ap (λ (x : Instance). place_assigned own.sums x.what) (sym i.instance_is) in
    let last = c.is_in_last_trip-is_last.result in
    c.mark_first.ensures
    ∙ ap (λ bs. mark_first bs c.privates.result last) c.mark_place.ensures
    ∙ ap (λ o. mark_first (mark_place s.pending o) c.privates.result last) place
    ∙ ap (λ n. mark_first (mark_place s.pending (place_assigned own.sums at.instance.what)) n last) many
    ∙ c.is_in_last_trip-is_last.ensures (mark_place s.pending (place_assigned own.sums at.instance.what)) at
