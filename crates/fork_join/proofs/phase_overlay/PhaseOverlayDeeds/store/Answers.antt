use Rattle.std.proofs.Common.{◌+◌, ◌∷◌, ◌∙◌, sym, ap, drop, rules, w64}
use Rattle.std.proofs.lemmas.Int.{to_z-of_z}
use Rattle.nest_tree.specs.View.{tree_of}
use Rattle.spmd_model.specs.Deeds.{storing}
use Rattle.turns.specs.TurnsLeft.{turns_place}
use Rattle.fork_join.specs.Joins.{all_deeds, own_place}
use Rattle.fork_join.proofs.OwnSeeing.{phase_left, slot_found, small_found, store_below, store_own_next, store_shared_next}
use Rattle.fork_join.proofs.Walking.{its_phase}
use Rattle.fork_join.proofs.phase_overlay.PhaseOverlayDeeds.store.Goals as goal

pub store_own-requires-clause-next : goal.store_own-requires-clause-next
store_own-requires-clause-next g c =
    let d = c.args.self.now in
    let o = d.overlay.now in
    let tree = tree_of o.program.now in
    let plan = o.plan.now in
    let p = o.processor in
    let place = turns_place d.turns.now.value.turns in
    let all = all_deeds tree plan p in
    let ds = drop o.done.done all in
    let r = c.requires in
    let at = slot_found tree plan place c.args.cell (g.P.Places.Fits d.own.now) d.finds c.place_of.result c.place_of.ensures in
    let s = store_own_next tree plan place p ds r.1 c.args.cell r.0 r.2 c.in-Some.place (sym c.in-Some.is ∙ at) in
    (r.0, s.0, s.1, to_z-of_z w64 c.args.value (search rules) ∙ r.3)

pub store_own-requires-clause-small : goal.store_own-requires-clause-small
store_own-requires-clause-small g c =
    let d = c.args.self.now in
    let o = d.overlay.now in
    let tree = tree_of o.program.now in
    let plan = o.plan.now in
    let p = o.processor in
    let place = turns_place d.turns.now.value.turns in
    let all = all_deeds tree plan p in
    let ds = drop o.done.done all in
    let r = c.requires in
    let at = slot_found tree plan place c.args.cell (g.P.Places.Fits d.own.now) d.finds c.place_of.result c.place_of.ensures in
    small_found tree plan place c.args.cell (g.P.Places.Fits d.own.now) d.finds c.in-Some.place (sym c.in-Some.is ∙ at)

pub store_shared-requires-clause-next : goal.store_shared-requires-clause-next
store_shared-requires-clause-next g c =
    let d = c.args.self.now in
    let o = d.overlay.now in
    let tree = tree_of o.program.now in
    let plan = o.plan.now in
    let p = o.processor in
    let place = turns_place d.turns.now.value.turns in
    let all = all_deeds tree plan p in
    let ds = drop o.done.done all in
    let r = c.requires in
    let at = slot_found tree plan place c.args.cell (g.P.Places.Fits d.own.now) d.finds c.place_of.result c.place_of.ensures in
    let s = store_shared_next tree plan place p ds r.1 c.args.cell r.0 r.2 (sym c.in-None.is ∙ at) in
    (r.0, s.0, s.1, to_z-of_z w64 c.args.value (search rules) ∙ r.3)

pub store_shared-requires-clause-inside : goal.store_shared-requires-clause-inside
store_shared-requires-clause-inside g c =
    let d = c.args.self.now in
    let o = d.overlay.now in
    let tree = tree_of o.program.now in
    let plan = o.plan.now in
    let p = o.processor in
    let place = turns_place d.turns.now.value.turns in
    let all = all_deeds tree plan p in
    let ds = drop o.done.done all in
    let r = c.requires in
    store_below tree plan place p ds r.1 c.args.cell r.0 r.2

pub returns-in-Some-clause-left : goal.returns-in-Some-clause-left
returns-in-Some-clause-left g c =
    let d = c.args.self.now in
    let o = d.overlay.now in
    let tree = tree_of o.program.now in
    let plan = o.plan.now in
    let p = o.processor in
    let place = turns_place d.turns.now.value.turns in
    let all = all_deeds tree plan p in
    let ds = drop o.done.done all in
    let r = c.requires in
    let at = slot_found tree plan place c.args.cell (g.P.Places.Fits d.own.now) d.finds c.place_of.result c.place_of.ensures in
    let s = store_own_next tree plan place p ds r.1 c.args.cell r.0 r.2 c.in-Some.place (sym c.in-Some.is ∙ at) in
    let new = c.store_own.new.self in
    let went = c.store_own.ensures in (
      r.0,
      phase_left tree plan place p all o.done.done (storing (own_place tree p c.in-Some.place) r.0) (storing c.args.cell r.0) s.0 r.1 s.1 r.2
          ∙ ap (λ l. storing c.args.cell r.0 ∷ l) (sym (its_phase tree plan o.behind p o.memory.now new went.kept place (o.done.done + 1) went.further)),
    )

pub returns-in-None-clause-left : goal.returns-in-None-clause-left
returns-in-None-clause-left g c =
    let d = c.args.self.now in
    let o = d.overlay.now in
    let tree = tree_of o.program.now in
    let plan = o.plan.now in
    let p = o.processor in
    let place = turns_place d.turns.now.value.turns in
    let all = all_deeds tree plan p in
    let ds = drop o.done.done all in
    let r = c.requires in
    let at = slot_found tree plan place c.args.cell (g.P.Places.Fits d.own.now) d.finds c.place_of.result c.place_of.ensures in
    let s = store_shared_next tree plan place p ds r.1 c.args.cell r.0 r.2 (sym c.in-None.is ∙ at) in
    let new = c.store_shared.new.self in
    let went = c.store_shared.ensures in (
      r.0,
      phase_left tree plan place p all o.done.done (storing c.args.cell r.0) (storing c.args.cell r.0) s.0 r.1 s.1 r.2
          ∙ ap (λ l. storing c.args.cell r.0 ∷ l) (sym (its_phase tree plan o.behind p o.memory.now new went.kept place (o.done.done + 1) went.further)),
    )
