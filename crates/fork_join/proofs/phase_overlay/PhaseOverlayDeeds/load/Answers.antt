use Rattle.std.proofs.Common.{◌+◌, ◌∷◌, ◌∙◌, sym, ap, drop}
use Rattle.nest_tree.specs.View.{tree_of}
use Rattle.spmd_model.specs.Deeds.{loading}
use Rattle.turns.specs.TurnsLeft.{turns_place}
use Rattle.fork_join.specs.Joins.{all_deeds, own_place}
use Rattle.fork_join.proofs.OwnSeeing.{load_below, load_own_next, load_shared_next, phase_left, slot_found, small_found}
use Rattle.fork_join.proofs.Walking.{its_phase}
use Rattle.fork_join.proofs.phase_overlay.PhaseOverlayDeeds.load.Goals as goal

pub load_own-requires-clause-next : goal.load_own-requires-clause-next
load_own-requires-clause-next g c =
    let d = c.args.self.now in
    let o = d.overlay.now in
    let tree = tree_of o.program.now in
    let plan = o.plan.now in
    let p = o.processor in
    let place = turns_place d.turns.now.value.turns in
    let all = all_deeds tree plan p in
    let ds = drop o.done.done all in
    let r = c.requires in
    let at = slot_found tree plan place c.args.cell (g.P.Places.Fits d.own.now) d.finds c.place_of.result c.place_of.ensures in
    load_own_next tree plan place p ds r.0 c.args.cell r.1 c.in-Some.place (sym c.in-Some.is ∙ at)

pub load_own-requires-clause-small : goal.load_own-requires-clause-small
load_own-requires-clause-small g c =
    let d = c.args.self.now in
    let o = d.overlay.now in
    let tree = tree_of o.program.now in
    let plan = o.plan.now in
    let p = o.processor in
    let place = turns_place d.turns.now.value.turns in
    let all = all_deeds tree plan p in
    let ds = drop o.done.done all in
    let r = c.requires in
    let at = slot_found tree plan place c.args.cell (g.P.Places.Fits d.own.now) d.finds c.place_of.result c.place_of.ensures in
    small_found tree plan place c.args.cell (g.P.Places.Fits d.own.now) d.finds c.in-Some.place (sym c.in-Some.is ∙ at)

pub load_shared-requires-clause-next : goal.load_shared-requires-clause-next
load_shared-requires-clause-next g c =
    let d = c.args.self.now in
    let o = d.overlay.now in
    let tree = tree_of o.program.now in
    let plan = o.plan.now in
    let p = o.processor in
    let place = turns_place d.turns.now.value.turns in
    let all = all_deeds tree plan p in
    let ds = drop o.done.done all in
    let r = c.requires in
    let at = slot_found tree plan place c.args.cell (g.P.Places.Fits d.own.now) d.finds c.place_of.result c.place_of.ensures in
    load_shared_next tree plan place p ds r.0 c.args.cell r.1 (sym c.in-None.is ∙ at)

pub load_shared-requires-clause-inside : goal.load_shared-requires-clause-inside
load_shared-requires-clause-inside g c =
    let d = c.args.self.now in
    let o = d.overlay.now in
    let tree = tree_of o.program.now in
    let plan = o.plan.now in
    let p = o.processor in
    let place = turns_place d.turns.now.value.turns in
    let all = all_deeds tree plan p in
    let ds = drop o.done.done all in
    let r = c.requires in
    load_below tree plan place p ds r.0 c.args.cell r.1

pub returns-in-Some-clause-left : goal.returns-in-Some-clause-left
returns-in-Some-clause-left g c =
    let d = c.args.self.now in
    let o = d.overlay.now in
    let tree = tree_of o.program.now in
    let plan = o.plan.now in
    let p = o.processor in
    let place = turns_place d.turns.now.value.turns in
    let all = all_deeds tree plan p in
    let ds = drop o.done.done all in
    let r = c.requires in
    let at = slot_found tree plan place c.args.cell (g.P.Places.Fits d.own.now) d.finds c.place_of.result c.place_of.ensures in
    let s = load_own_next tree plan place p ds r.0 c.args.cell r.1 c.in-Some.place (sym c.in-Some.is ∙ at) in
    let new = c.load_own.new.self in
    let went = c.load_own.ensures in
    phase_left tree plan place p all o.done.done (loading (own_place tree p c.in-Some.place)) (loading c.args.cell) s.0 r.0 s.1 r.1
    ∙ ap (λ l. loading c.args.cell ∷ l) (sym (its_phase tree plan o.behind p o.memory.now new went.kept place (o.done.done + 1) went.further))

pub returns-in-None-clause-left : goal.returns-in-None-clause-left
returns-in-None-clause-left g c =
    let d = c.args.self.now in
    let o = d.overlay.now in
    let tree = tree_of o.program.now in
    let plan = o.plan.now in
    let p = o.processor in
    let place = turns_place d.turns.now.value.turns in
    let all = all_deeds tree plan p in
    let ds = drop o.done.done all in
    let r = c.requires in
    let at = slot_found tree plan place c.args.cell (g.P.Places.Fits d.own.now) d.finds c.place_of.result c.place_of.ensures in
    let s = load_shared_next tree plan place p ds r.0 c.args.cell r.1 (sym c.in-None.is ∙ at) in
    let new = c.load_shared.new.self in
    let went = c.load_shared.ensures in
    phase_left tree plan place p all o.done.done (loading c.args.cell) (loading c.args.cell) s.0 r.0 s.1 r.1
    ∙ ap (λ l. loading c.args.cell ∷ l) (sym (its_phase tree plan o.behind p o.memory.now new went.kept place (o.done.done + 1) went.further))
