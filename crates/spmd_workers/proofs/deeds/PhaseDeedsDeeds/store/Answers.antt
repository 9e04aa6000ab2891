use Rattle.std.proofs.Common.{◌+◌, ◌∷◌, w64, FitsSigned, set, sym, ap, ◌∙◌, subst, arith, rules}
use Rattle.std.proofs.lemmas.Int.{to_z-of_z}
use Rattle.spmd_model.specs.Deeds.{storing}
use Rattle.turns.specs.TurnsLeft.{turns_place}
use Rattle.fork_join.proofs.OwnSeeing.{slot_found, small_found}
use Rattle.spmd_workers.specs.Held.{AreHeld}
use Rattle.fork_join.specs.SeenDeeds.{phase_deed}
use Rattle.spmd_workers.specs.Places.{left_seen, place_of, plan_at, printed_behind, registers_behind, tree_at}
use Rattle.spmd_workers.proofs.Accesses.{own_store_back, shared_store_back, stores_own, stores_shared}
use Rattle.spmd_workers.proofs.SharedSteps.{further_on, stays_on}
use Rattle.spmd_workers.proofs.deeds.PhaseDeedsDeeds.store.Goals as goal

pub store-requires-clause-next : goal.store-requires-clause-next
store-requires-clause-next g c =
    let d = c.args.self.now in
    let v = d.seat.now in
    let n = place_of v d.turns.now.value + d.done.done in
    let held : AreHeld v.home = subst AreHeld (sym d.same_table) c.laws_of.ensures in
    let f = phase_deed (tree_at v.home) (plan_at v.home) (turns_place d.turns.now.value) v.processor in
    let at = slot_found (tree_at v.home) (plan_at v.home) (turns_place d.turns.now.value) c.args.cell (g.P.Places.Fits d.scalars.now) d.finds c.place_of.result c.place_of.ensures in
    let (value, rest, is, stored) = c.requires in
    let s = stores_shared f d.from.now.value v held d.worker d.own.now n c.args.cell value rest is (shared_store_back v.home d.turns.now.value v.processor c.args.cell c.place_of.result at value c.in_default.is) in
    s.next

pub store-requires-clause-value : goal.store-requires-clause-value
store-requires-clause-value g c =
    let d = c.args.self.now in
    let v = d.seat.now in
    let n = place_of v d.turns.now.value + d.done.done in
    let held : AreHeld v.home = subst AreHeld (sym d.same_table) c.laws_of.ensures in
    let f = phase_deed (tree_at v.home) (plan_at v.home) (turns_place d.turns.now.value) v.processor in
    let at = slot_found (tree_at v.home) (plan_at v.home) (turns_place d.turns.now.value) c.args.cell (g.P.Places.Fits d.scalars.now) d.finds c.place_of.result c.place_of.ensures in
    let (value, rest, is, stored) = c.requires in
    let s = stores_shared f d.from.now.value v held d.worker d.own.now n c.args.cell value rest is (shared_store_back v.home d.turns.now.value v.processor c.args.cell c.place_of.result at value c.in_default.is) in
    let fits : FitsSigned w64 c.args.value = search rules in
    to_z-of_z w64 c.args.value fits ∙ s.stored c.args.value stored

pub returns-in_default-clause-left : goal.returns-in_default-clause-left
returns-in_default-clause-left g c =
    let d = c.args.self.now in
    let v = d.seat.now in
    let n = place_of v d.turns.now.value + d.done.done in
    let held : AreHeld v.home = subst AreHeld (sym d.same_table) c.laws_of.ensures in
    let f = phase_deed (tree_at v.home) (plan_at v.home) (turns_place d.turns.now.value) v.processor in
    let at = slot_found (tree_at v.home) (plan_at v.home) (turns_place d.turns.now.value) c.args.cell (g.P.Places.Fits d.scalars.now) d.finds c.place_of.result c.place_of.ensures in
    let (value, rest, is, stored) = c.requires in
    let s = stores_shared f d.from.now.value v held d.worker d.own.now n c.args.cell value rest is (shared_store_back v.home d.turns.now.value v.processor c.args.cell c.place_of.result at value c.in_default.is) in
    let moved = further_on (λ u k. left_seen d.turns.now.value d.from.now.value u d.own.now k) v c.store.new.seat d.turns.now.value d.done.done c.further-self.result.done c.store.ensures.goes c.further-self.ensures in
    (value, is ∙ ap (λ ds. storing c.args.cell value ∷ ds) (sym (moved ∙ s.left)))

pub returns-in_default-clause-registers : goal.returns-in_default-clause-registers
returns-in_default-clause-registers g c =
    let d = c.args.self.now in
    let v = d.seat.now in
    let n = place_of v d.turns.now.value + d.done.done in
    let held : AreHeld v.home = subst AreHeld (sym d.same_table) c.laws_of.ensures in
    let f = phase_deed (tree_at v.home) (plan_at v.home) (turns_place d.turns.now.value) v.processor in
    let at = slot_found (tree_at v.home) (plan_at v.home) (turns_place d.turns.now.value) c.args.cell (g.P.Places.Fits d.scalars.now) d.finds c.place_of.result c.place_of.ensures in
    let (value, rest, is, stored) = c.requires in
    let s = stores_shared f d.from.now.value v held d.worker d.own.now n c.args.cell value rest is (shared_store_back v.home d.turns.now.value v.processor c.args.cell c.place_of.result at value c.in_default.is) in
    further_on registers_behind v c.store.new.seat d.turns.now.value d.done.done c.further-self.result.done c.store.ensures.goes c.further-self.ensures ∙ s.registers

pub returns-in_default-clause-printed : goal.returns-in_default-clause-printed
returns-in_default-clause-printed g c =
    let d = c.args.self.now in
    let v = d.seat.now in
    let n = place_of v d.turns.now.value + d.done.done in
    let held : AreHeld v.home = subst AreHeld (sym d.same_table) c.laws_of.ensures in
    let f = phase_deed (tree_at v.home) (plan_at v.home) (turns_place d.turns.now.value) v.processor in
    let at = slot_found (tree_at v.home) (plan_at v.home) (turns_place d.turns.now.value) c.args.cell (g.P.Places.Fits d.scalars.now) d.finds c.place_of.result c.place_of.ensures in
    let (value, rest, is, stored) = c.requires in
    let s = stores_shared f d.from.now.value v held d.worker d.own.now n c.args.cell value rest is (shared_store_back v.home d.turns.now.value v.processor c.args.cell c.place_of.result at value c.in_default.is) in
    further_on printed_behind v c.store.new.seat d.turns.now.value d.done.done c.further-self.result.done c.store.ensures.goes c.further-self.ensures ∙ s.printed

pub returns-clause-left : goal.returns-clause-left
returns-clause-left g c =
    let d = c.args.self.now in
    let v = d.seat.now in
    let n = place_of v d.turns.now.value + d.done.done in
    let held : AreHeld v.home = subst AreHeld (sym d.same_table) c.laws_of.ensures in
    let f = phase_deed (tree_at v.home) (plan_at v.home) (turns_place d.turns.now.value) v.processor in
    let at = slot_found (tree_at v.home) (plan_at v.home) (turns_place d.turns.now.value) c.args.cell (g.P.Places.Fits d.scalars.now) d.finds c.place_of.result c.place_of.ensures in
    let (value, rest, is, stored) = c.requires in
    let small = small_found (tree_at v.home) (plan_at v.home) (turns_place d.turns.now.value) c.args.cell (g.P.Places.Fits d.scalars.now) d.finds c.in-Some.place (sym c.in-Some.is ∙ at) in
    let s = stores_own f d.from.now.value v held d.worker d.own.now n c.args.cell c.in-Some.place value rest small is (own_store_back v.home d.turns.now.value v.processor c.args.cell c.place_of.result at value c.in-Some.place c.in-Some.is) in
    let fits : FitsSigned w64 c.args.value = search rules in
    let same = ap (λ z. left_seen d.turns.now.value d.from.now.value v (set d.own.now c.in-Some.place z) (place_of v d.turns.now.value + c.further-self-2.result.done)) (to_z-of_z w64 c.args.value fits) in
    let moved = stays_on (λ u k. left_seen d.turns.now.value d.from.now.value u (set d.own.now c.in-Some.place c.args.value) k) v d.turns.now.value d.done.done c.further-self-2.result.done c.further-self-2.ensures in
    (value, is ∙ ap (λ ds. storing c.args.cell value ∷ ds) (sym (same ∙ moved ∙ s.left c.args.value stored)))

pub returns-clause-registers : goal.returns-clause-registers
returns-clause-registers g c =
    let d = c.args.self.now in
    let v = d.seat.now in
    let n = place_of v d.turns.now.value + d.done.done in
    let held : AreHeld v.home = subst AreHeld (sym d.same_table) c.laws_of.ensures in
    let f = phase_deed (tree_at v.home) (plan_at v.home) (turns_place d.turns.now.value) v.processor in
    let at = slot_found (tree_at v.home) (plan_at v.home) (turns_place d.turns.now.value) c.args.cell (g.P.Places.Fits d.scalars.now) d.finds c.place_of.result c.place_of.ensures in
    let (value, rest, is, stored) = c.requires in
    let small = small_found (tree_at v.home) (plan_at v.home) (turns_place d.turns.now.value) c.args.cell (g.P.Places.Fits d.scalars.now) d.finds c.in-Some.place (sym c.in-Some.is ∙ at) in
    let s = stores_own f d.from.now.value v held d.worker d.own.now n c.args.cell c.in-Some.place value rest small is (own_store_back v.home d.turns.now.value v.processor c.args.cell c.place_of.result at value c.in-Some.place c.in-Some.is) in
    stays_on registers_behind v d.turns.now.value d.done.done c.further-self-2.result.done c.further-self-2.ensures ∙ s.registers

pub returns-clause-printed : goal.returns-clause-printed
returns-clause-printed g c =
    let d = c.args.self.now in
    let v = d.seat.now in
    let n = place_of v d.turns.now.value + d.done.done in
    let held : AreHeld v.home = subst AreHeld (sym d.same_table) c.laws_of.ensures in
    let f = phase_deed (tree_at v.home) (plan_at v.home) (turns_place d.turns.now.value) v.processor in
    let at = slot_found (tree_at v.home) (plan_at v.home) (turns_place d.turns.now.value) c.args.cell (g.P.Places.Fits d.scalars.now) d.finds c.place_of.result c.place_of.ensures in
    let (value, rest, is, stored) = c.requires in
    let small = small_found (tree_at v.home) (plan_at v.home) (turns_place d.turns.now.value) c.args.cell (g.P.Places.Fits d.scalars.now) d.finds c.in-Some.place (sym c.in-Some.is ∙ at) in
    let s = stores_own f d.from.now.value v held d.worker d.own.now n c.args.cell c.in-Some.place value rest small is (own_store_back v.home d.turns.now.value v.processor c.args.cell c.place_of.result at value c.in-Some.place c.in-Some.is) in
    stays_on printed_behind v d.turns.now.value d.done.done c.further-self-2.result.done c.further-self-2.ensures ∙ s.printed

pub offset_bounds-self-place : goal.offset_bounds-self-place
offset_bounds-self-place g c =
    let d = c.args.self.now in
    let v = d.seat.now in
    let at = slot_found (tree_at v.home) (plan_at v.home) (turns_place d.turns.now.value) c.args.cell (g.P.Places.Fits d.scalars.now) d.finds c.place_of.result c.place_of.ensures in
    let small = small_found (tree_at v.home) (plan_at v.home) (turns_place d.turns.now.value) c.args.cell (g.P.Places.Fits d.scalars.now) d.finds c.in-Some.place (sym c.in-Some.is ∙ at) in
    omega (arith, small)

pub bounds-self-place : goal.bounds-self-place
bounds-self-place g c =
    let d = c.args.self.now in
    let v = d.seat.now in
    let at = slot_found (tree_at v.home) (plan_at v.home) (turns_place d.turns.now.value) c.args.cell (g.P.Places.Fits d.scalars.now) d.finds c.place_of.result c.place_of.ensures in
    let small = small_found (tree_at v.home) (plan_at v.home) (turns_place d.turns.now.value) c.args.cell (g.P.Places.Fits d.scalars.now) d.finds c.in-Some.place (sym c.in-Some.is ∙ at) in
    small
