use Rattle.std.proofs.Common.{◌+◌, ◌++◌, [], ◌∷◌, w64, FitsSigned, get_or, pos, sym, ap, ◌∙◌, subst, arith, rules}
use Rattle.std.proofs.lemmas.Int.{to_z-of_z}
use Rattle.spmd_model.specs.Deeds.{loading}
use Rattle.turns.specs.TurnsLeft.{turns_place}
use Rattle.fork_join.proofs.OwnSeeing.{slot_found, small_found}
use Rattle.spmd_workers.specs.Held.{AreHeld}
use Rattle.fork_join.specs.SeenDeeds.{phase_deed}
use Rattle.spmd_workers.specs.Places.{left_seen, place_of, plan_at, printed_behind, registers_behind, tree_at}
use Rattle.spmd_workers.proofs.Accesses.{loads_own, loads_shared, own_back, shared_back}
use Rattle.spmd_workers.proofs.SharedSteps.{further_on, stays_on}
use Rattle.spmd_workers.proofs.deeds.PhaseDeedsDeeds.load.Goals as goal

pub load-value-requires-clause-next : goal.load-value-requires-clause-next
load-value-requires-clause-next g c =
    let d = c.args.self.now in
    let v = d.seat.now in
    let n = place_of v d.turns.now.value + d.done.done in
    let held : AreHeld v.home = subst AreHeld (sym d.same_table) c.laws_of.ensures in
    let f = phase_deed (tree_at v.home) (plan_at v.home) (turns_place d.turns.now.value) v.processor in
    let at = slot_found (tree_at v.home) (plan_at v.home) (turns_place d.turns.now.value) c.args.cell (g.P.Places.Fits d.scalars.now) d.finds c.place_of.result c.place_of.ensures in
    let l = loads_shared f d.from.now.value v held d.worker d.own.now n c.args.cell c.requires.0 c.requires.1 (shared_back v.home d.turns.now.value v.processor c.args.cell c.place_of.result at c.in_default.is) in
    l.next

pub returns-in_default-clause-left : goal.returns-in_default-clause-left
returns-in_default-clause-left g c =
    let d = c.args.self.now in
    let v = d.seat.now in
    let n = place_of v d.turns.now.value + d.done.done in
    let held : AreHeld v.home = subst AreHeld (sym d.same_table) c.laws_of.ensures in
    let f = phase_deed (tree_at v.home) (plan_at v.home) (turns_place d.turns.now.value) v.processor in
    let at = slot_found (tree_at v.home) (plan_at v.home) (turns_place d.turns.now.value) c.args.cell (g.P.Places.Fits d.scalars.now) d.finds c.place_of.result c.place_of.ensures in
    let l = loads_shared f d.from.now.value v held d.worker d.own.now n c.args.cell c.requires.0 c.requires.1 (shared_back v.home d.turns.now.value v.processor c.args.cell c.place_of.result at c.in_default.is) in
    let moved = further_on (λ u k. left_seen d.turns.now.value d.from.now.value u d.own.now k) v c.load-value.new.seat d.turns.now.value d.done.done c.further-self.result.done c.load-value.ensures.goes c.further-self.ensures in
    c.requires.1 ∙ ap (λ ds. loading c.args.cell ∷ ds) (sym (moved ∙ l.left))

pub returns-in_default-clause-registers : goal.returns-in_default-clause-registers
returns-in_default-clause-registers g c =
    let d = c.args.self.now in
    let v = d.seat.now in
    let n = place_of v d.turns.now.value + d.done.done in
    let held : AreHeld v.home = subst AreHeld (sym d.same_table) c.laws_of.ensures in
    let f = phase_deed (tree_at v.home) (plan_at v.home) (turns_place d.turns.now.value) v.processor in
    let at = slot_found (tree_at v.home) (plan_at v.home) (turns_place d.turns.now.value) c.args.cell (g.P.Places.Fits d.scalars.now) d.finds c.place_of.result c.place_of.ensures in
    let l = loads_shared f d.from.now.value v held d.worker d.own.now n c.args.cell c.requires.0 c.requires.1 (shared_back v.home d.turns.now.value v.processor c.args.cell c.place_of.result at c.in_default.is) in
    let fits : FitsSigned w64 c.load-value.result = search rules in
    let value = to_z-of_z w64 c.load-value.result fits ∙ c.load-value.ensures.value in
    further_on registers_behind v c.load-value.new.seat d.turns.now.value d.done.done c.further-self.result.done c.load-value.ensures.goes c.further-self.ensures ∙ l.registers _ value

pub returns-in_default-clause-printed : goal.returns-in_default-clause-printed
returns-in_default-clause-printed g c =
    let d = c.args.self.now in
    let v = d.seat.now in
    let n = place_of v d.turns.now.value + d.done.done in
    let held : AreHeld v.home = subst AreHeld (sym d.same_table) c.laws_of.ensures in
    let f = phase_deed (tree_at v.home) (plan_at v.home) (turns_place d.turns.now.value) v.processor in
    let at = slot_found (tree_at v.home) (plan_at v.home) (turns_place d.turns.now.value) c.args.cell (g.P.Places.Fits d.scalars.now) d.finds c.place_of.result c.place_of.ensures in
    let l = loads_shared f d.from.now.value v held d.worker d.own.now n c.args.cell c.requires.0 c.requires.1 (shared_back v.home d.turns.now.value v.processor c.args.cell c.place_of.result at c.in_default.is) in
    further_on printed_behind v c.load-value.new.seat d.turns.now.value d.done.done c.further-self.result.done c.load-value.ensures.goes c.further-self.ensures ∙ l.printed

pub returns-clause-left : goal.returns-clause-left
returns-clause-left g c =
    let d = c.args.self.now in
    let v = d.seat.now in
    let n = place_of v d.turns.now.value + d.done.done in
    let held : AreHeld v.home = subst AreHeld (sym d.same_table) c.laws_of.ensures in
    let f = phase_deed (tree_at v.home) (plan_at v.home) (turns_place d.turns.now.value) v.processor in
    let at = slot_found (tree_at v.home) (plan_at v.home) (turns_place d.turns.now.value) c.args.cell (g.P.Places.Fits d.scalars.now) d.finds c.place_of.result c.place_of.ensures in
    let small = small_found (tree_at v.home) (plan_at v.home) (turns_place d.turns.now.value) c.args.cell (g.P.Places.Fits d.scalars.now) d.finds c.in-Some.place (sym c.in-Some.is ∙ at) in
    let l = loads_own f d.from.now.value v held d.worker d.own.now n c.args.cell c.in-Some.place c.requires.0 small c.requires.1 (own_back v.home d.turns.now.value v.processor c.args.cell c.place_of.result at c.in-Some.place c.in-Some.is) in
    c.requires.1 ∙ ap (λ ds. loading c.args.cell ∷ ds) (sym (stays_on (λ u k. left_seen d.turns.now.value d.from.now.value u d.own.now k) v d.turns.now.value d.done.done c.further-self-2.result.done c.further-self-2.ensures ∙ l.left))

pub returns-clause-registers : goal.returns-clause-registers
returns-clause-registers g c =
    let d = c.args.self.now in
    let v = d.seat.now in
    let n = place_of v d.turns.now.value + d.done.done in
    let held : AreHeld v.home = subst AreHeld (sym d.same_table) c.laws_of.ensures in
    let f = phase_deed (tree_at v.home) (plan_at v.home) (turns_place d.turns.now.value) v.processor in
    let at = slot_found (tree_at v.home) (plan_at v.home) (turns_place d.turns.now.value) c.args.cell (g.P.Places.Fits d.scalars.now) d.finds c.place_of.result c.place_of.ensures in
    let small = small_found (tree_at v.home) (plan_at v.home) (turns_place d.turns.now.value) c.args.cell (g.P.Places.Fits d.scalars.now) d.finds c.in-Some.place (sym c.in-Some.is ∙ at) in
    let l = loads_own f d.from.now.value v held d.worker d.own.now n c.args.cell c.in-Some.place c.requires.0 small c.requires.1 (own_back v.home d.turns.now.value v.processor c.args.cell c.place_of.result at c.in-Some.place c.in-Some.is) in
    let total = get_or d.own.now c.in-Some.place (pos 0) in
    let fits : FitsSigned w64 total = search rules in
    stays_on registers_behind v d.turns.now.value d.done.done c.further-self-2.result.done c.further-self-2.ensures ∙ l.registers ∙ ap (λ z. registers_behind v n ++ z ∷ []) (sym (to_z-of_z w64 total fits))

pub returns-clause-printed : goal.returns-clause-printed
returns-clause-printed g c =
    let d = c.args.self.now in
    let v = d.seat.now in
    let n = place_of v d.turns.now.value + d.done.done in
    let held : AreHeld v.home = subst AreHeld (sym d.same_table) c.laws_of.ensures in
    let f = phase_deed (tree_at v.home) (plan_at v.home) (turns_place d.turns.now.value) v.processor in
    let at = slot_found (tree_at v.home) (plan_at v.home) (turns_place d.turns.now.value) c.args.cell (g.P.Places.Fits d.scalars.now) d.finds c.place_of.result c.place_of.ensures in
    let small = small_found (tree_at v.home) (plan_at v.home) (turns_place d.turns.now.value) c.args.cell (g.P.Places.Fits d.scalars.now) d.finds c.in-Some.place (sym c.in-Some.is ∙ at) in
    let l = loads_own f d.from.now.value v held d.worker d.own.now n c.args.cell c.in-Some.place c.requires.0 small c.requires.1 (own_back v.home d.turns.now.value v.processor c.args.cell c.place_of.result at c.in-Some.place c.in-Some.is) in
    stays_on printed_behind v d.turns.now.value d.done.done c.further-self-2.result.done c.further-self-2.ensures ∙ l.printed

pub offset_bounds-self-place : goal.offset_bounds-self-place
offset_bounds-self-place g c =
    let d = c.args.self.now in
    let v = d.seat.now in
    let at = slot_found (tree_at v.home) (plan_at v.home) (turns_place d.turns.now.value) c.args.cell (g.P.Places.Fits d.scalars.now) d.finds c.place_of.result c.place_of.ensures in
    let small = small_found (tree_at v.home) (plan_at v.home) (turns_place d.turns.now.value) c.args.cell (g.P.Places.Fits d.scalars.now) d.finds c.in-Some.place (sym c.in-Some.is ∙ at) in
    omega (arith, small)

pub bounds-self-place : goal.bounds-self-place
bounds-self-place g c =
    let d = c.args.self.now in
    let v = d.seat.now in
    let at = slot_found (tree_at v.home) (plan_at v.home) (turns_place d.turns.now.value) c.args.cell (g.P.Places.Fits d.scalars.now) d.finds c.place_of.result c.place_of.ensures in
    let small = small_found (tree_at v.home) (plan_at v.home) (turns_place d.turns.now.value) c.args.cell (g.P.Places.Fits d.scalars.now) d.finds c.in-Some.place (sym c.in-Some.is ∙ at) in
    small
