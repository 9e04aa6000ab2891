use Rattle.std.proofs.Common.{◌≡◌, ◌-◌, List, [], Option, Some, MatchOption, length, ap, sym, subst, ◌∙◌, arith}
use Rattle.std.proofs.lemmas.List.{length-map}
use Rattle.std.specs.Prelude.{slice_get}
use Rattle.std.specs.Borrow.{Bor}
use Rattle.std.specs.List.{list_all}
use Rattle.nest_tree.specs.Layout.{first_cell}
use Rattle.nest_tree.specs.Tree.{Tree, param_values}
use Rattle.nest_tree.specs.View.{head_of, statement_of}
use Rattle.nest_tree.specs.WellFormed.{is_number_of, loops_of}
use Rattle.nest_tree.specs.declared.tree.Nest.{Nest}
use Rattle.nest_model.specs.Instances.{Instance}
use Rattle.nest_walk.specs.Cursors.{loops_in}
use Rattle.nest_walk.specs.Paths.{Round}
use Rattle.nest_walk.proofs.PlacedWorks.{instance_at, reached_numbered}
use Rattle.sync_plan.specs.Own.{own_loop}
use Rattle.sync_plan.specs.Shape.{static_phases}
use Rattle.own_cells.specs.FinalTrips.{is_final}
use Rattle.turns.specs.CountersLeft.{counters_tree}
use Rattle.turns.specs.Turns.{mark_first}
use Rattle.turns.specs.TurnsLeft.{AreSound, IsPlaced, turns_plan, turns_rounds, turns_tree}
use Rattle.turns.specs.declared.turns.Turns.{Turns}
use Rattle.turns.proofs.KnownOwn.{no_first, placed_ends, placed_number}
use Rattle.turns.proofs.turns.Turns.is_in_last_trip.Goals as goal

placed : (s : Turns) (nest : Bor Nest) → AreSound s → s.nest ≡ Some nest → IsPlaced (slice_get (static_phases (turns_tree s) (turns_plan s).cut.marks) (s.place - 1)) nest.now
placed s nest sound is =
    subst (λ (o : Option (Bor Nest)). MatchOption o ((own_loop (turns_tree s) (turns_plan s) s.place).privates ≡ []) (λ n. IsPlaced (slice_get (static_phases (turns_tree s) (turns_plan s).cut.marks) (s.place - 1)) n.now)) is sound.own.loop

pub is_final-requires-clause-numbered : goal.is_final-requires-clause-numbered
is_final-requires-clause-numbered c =
    let s = c.args.self.now in
    let numbered = reached_numbered (counters_tree s.counters) (turns_rounds s) c.args.stop c.requires.next.0.reached in
    ap (λ (rs : List Round). list_all (λ (r : Round). is_number_of (loops_of (turns_tree s).items) r.number) rs) c.path.ensures
    ∙ (sym (ap (λ (t : Tree). list_all (λ (r : Round). is_number_of (loops_of t.items) r.number) (turns_rounds s)) c.requires.sound.same_tree) ∙ numbered)

pub is_final-requires-clause-number : goal.is_final-requires-clause-number
is_final-requires-clause-number c =
    let s = c.args.self.now in
    placed_number (turns_tree s) (turns_plan s) (s.place - 1) c.in-Some.nest.now c.requires.sound.formed (placed s c.in-Some.nest c.requires.sound c.in-Some.is)

pub returns-then-privates-gt0 : goal.returns-then-privates-gt0
returns-then-privates-gt0 c = λ pending at.
    let s = c.args.self.now in
    let tree = turns_tree s in
    let head = head_of c.in-Some.nest.now in
    let i = instance_at (counters_tree s.counters) (turns_rounds s) c.args.stop.first (statement_of c.args.stop.item.now) at.instance at.is in
    let final =
    c.is_final.ensures
    ∙ ap (λ (rs : List Round). is_final (param_values tree) head (loops_in tree rs)) c.path.ensures
    ∙ ap (λ (t : Tree). is_final (param_values tree) head (loops_in t (turns_rounds s))) (sym c.requires.sound.same_tree)
    ∙ ap (λ (x : Instance). is_final (param_values tree) head x.loops) (sym i.instance_is)
    ∙ sym (placed_ends (param_values tree) (slice_get (static_phases tree (turns_plan s).cut.marks) (s.place - 1)) c.in-Some.nest.now at.instance.loops (placed s c.in-Some.nest c.requires.sound c.in-Some.is)) in
    ap (mark_first pending (length (own_loop tree (turns_plan s) s.place).privates)) final

pub returns-else-privates-gt0 : goal.returns-else-privates-gt0
returns-else-privates-gt0 c = λ pending at.
    let s = c.args.self.now in
    let own = own_loop (turns_tree s) (turns_plan s) s.place in
    let many = ap length c.requires.sound.own.cells.private_cells ∙ length-map own.privates (first_cell (turns_tree s)) in
    let none : length own.privates ≡ 0 = omega (arith, many, c.privates.ensures, c.if-privates-gt0.false) in
    no_first pending (length own.privates) _ _ none
