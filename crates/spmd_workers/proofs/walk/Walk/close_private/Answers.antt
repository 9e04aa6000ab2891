use Rattle.std.proofs.Common.{◌≡◌, w64, FitsSigned, Some, get_or, pos, refl, sym, ◌∙◌, ap, subst, rules}
use Rattle.std.proofs.lemmas.Int.{to_z-of_z}
use Rattle.nest_tree.specs.Layout.{first_cell}
use Rattle.sync_plan.specs.Own.{own_loop}
use Rattle.own_cells.specs.OwnCells.{shared_cell}
use Rattle.own_cells.specs.declared.cells.OwnCells.{OwnCells}
use Rattle.turns.specs.Turns.{scalar_at}
use Rattle.turns.specs.TurnsLeft.{turns_place}
use Rattle.shared_words.specs.Calls.{StoresNext}
use Rattle.spmd_workers.specs.Held.{AreHeld}
use Rattle.spmd_workers.specs.Places.{plan_at, tree_at}
use Rattle.spmd_workers.proofs.Closings.{keeps_next, keeps_value, kept_goes, kept_leads, shared_is}
use Rattle.spmd_workers.proofs.Instances.{same_tail}
use Rattle.spmd_workers.proofs.Steps.{same_turn}
use Rattle.spmd_workers.proofs.walk.Walk.close_private.Goals as goal

pub cell-cell-requires : goal.cell-cell-requires
cell-cell-requires c =
    let x = c.args.self.now in
    let to = (first_cell (tree_at x.seat.home) (scalar_at (own_loop (tree_at x.seat.home) (plan_at x.seat.home) (turns_place x.turns)) c.args.place)) in
    (to, ap (λ (o : OwnCells). shared_cell o c.args.place) c.own_cells.ensures ∙ shared_is x c.requires.ready (subst AreHeld (sym c.requires.own) c.laws_of.ensures) c.args.place c.requires.next)

pub store-requires-clause-next : goal.store-requires-clause-next
store-requires-clause-next c =
    let x = c.args.self.now in
    let ready = c.requires.ready in
    let held : AreHeld x.seat.home = subst AreHeld (sym c.requires.own) c.laws_of.ensures in
    let cell : c.cell-cell.result ≡ (first_cell (tree_at x.seat.home) (scalar_at (own_loop (tree_at x.seat.home) (plan_at x.seat.home) (turns_place x.turns)) c.args.place)) = (let both : Some c.cell-cell.result ≡ Some (first_cell (tree_at x.seat.home) (scalar_at (own_loop (tree_at x.seat.home) (plan_at x.seat.home) (turns_place x.turns)) c.args.place)) = sym c.cell-cell.ensures ∙ ap (λ (o : OwnCells). shared_cell o c.args.place) c.own_cells.ensures ∙ shared_is x ready held c.args.place c.requires.next in cc) in
    subst (StoresNext x.seat) (sym cell) (keeps_next x ready held c.args.place c.requires.next c.requires.kind)

pub store-requires-clause-value : goal.store-requires-clause-value
store-requires-clause-value c =
    let x = c.args.self.now in
    let ready = c.requires.ready in
    let held : AreHeld x.seat.home = subst AreHeld (sym c.requires.own) c.laws_of.ensures in
    let total = get_or x.own c.args.place (pos 0) in
    let fits : FitsSigned w64 total = search rules in
    to_z-of_z w64 total fits ∙ keeps_value x ready held c.args.place c.requires.next c.requires.kind

pub returns-clause-goes : goal.returns-clause-goes
returns-clause-goes c =
    let x = c.args.self.now in
    let ready = c.requires.ready in
    let held : AreHeld x.seat.home = subst AreHeld (sym c.requires.own) c.laws_of.ensures in
    let y = record x { seat = c.store.new.seat; turns = c.pass.new.self } in
    let went = c.pass.ensures in
    let turns = same_turn c.requires.next.0.1 went.passed.1 in
    let rest = same_tail c.requires.next.0.1 turns in
    kept_goes x ready held c.args.place c.requires.next c.requires.kind y c.store.ensures.goes refl refl refl refl went.sound went.same went.begins turns rest refl

pub returns-clause-tells : goal.returns-clause-tells
returns-clause-tells c =
    let x = c.args.self.now in
    let ready = c.requires.ready in
    let held : AreHeld x.seat.home = subst AreHeld (sym c.requires.own) c.laws_of.ensures in
    let y = record x { seat = c.store.new.seat; turns = c.pass.new.self } in
    let went = c.pass.ensures in
    let turns = same_turn c.requires.next.0.1 went.passed.1 in
    let rest = same_tail c.requires.next.0.1 turns in
    kept_leads x ready held c.args.place c.requires.next c.requires.kind y c.store.ensures.goes refl refl refl refl went.sound went.same went.begins turns rest
