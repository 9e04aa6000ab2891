use Rattle.std.proofs.Common.{◌≡◌, ◌-◌, ℕ, List, Option, Some, ap, sym, subst, ◌∙◌, refl}
use Rattle.std.specs.Prelude.{slice_get}
use Rattle.nest_tree.specs.Tree.{Tree}
use Rattle.nest_tree.specs.View.{loop_of, statement_of, tree_of}
use Rattle.nest_tree.specs.declared.tree.Item.{Item, Loop}
use Rattle.nest_tree.specs.declared.tree.Nest.{Nest}
use Rattle.nest_tree.proofs.Rows.{statement_of-Loop}
use Rattle.nest_walk.specs.Texts.{Placed}
use Rattle.owner_partition.specs.StaticPhases.{loops_round}
use Rattle.sync_plan.specs.Own.{OwnLoop, own_loop_at}
use Rattle.sync_plan.specs.declared.plan.Plan.{Plan}
use Rattle.sync_plan.specs.Shape.{static_phases}
use Rattle.own_cells.specs.OwnCells.{AreFew, AreOwnCells, cells_of}
use Rattle.turns.specs.TurnsLeft.{IsPlaced}
use Rattle.turns.proofs.KnownOwn.{none_at}
use Rattle.turns.proofs.turns.own_at.Goals as goal

pub returns-then-not-is_some-clause-cells : goal.returns-then-not-is_some-clause-cells
returns-then-not-is_some-clause-cells c =
    let tree = tree_of c.args.program.now in
    let none = none_at tree c.args.plan.now c.args.place (sym c.requires.has ∙ c.if-not-is_some.true) in
    record { private_cells = c.none.ensures.privates ∙ sym (ap (cells_of tree) none.privates); sums = c.none.ensures.sums ∙ sym none.sums; sum_cells = c.none.ensures.sum_cells ∙ sym (ap (cells_of tree) none.sums) }

-- the static phase that was found is that loop
there : (tree : Tree) (plan : Plan) (place : ℕ) (item : Item) (nest : Nest) (around : List ℕ) → slice_get (static_phases tree plan.cut.marks) (place - 1) ≡ Some (record { what = statement_of item; around = around }) → item ≡ Loop nest →
    slice_get (static_phases tree plan.cut.marks) (place - 1) ≡ Some (record { what = loop_of nest; around = around })
there tree plan place item nest around at is = at ∙ ap (λ s. Some (record { what = s; around = around })) (ap statement_of is ∙ statement_of-Loop nest)

pub of_loop-requires : goal.of_loop-requires
of_loop-requires c =
    let plan = c.args.plan.now in
    let at = there (tree_of c.args.program.now) plan c.args.place c.in-Some.text.item.now c.in-Loop.nest (loops_round c.in-Some.text) c.in-Some.ensures c.in-Loop.is in
    record { few = subst (AreFew (tree_of c.args.program.now)) (ap (own_loop_at plan.cut) at) c.requires.few }

pub returns-in-Loop-clause-cells : goal.returns-in-Loop-clause-cells
returns-in-Loop-clause-cells c =
    let plan = c.args.plan.now in
    let at = there (tree_of c.args.program.now) plan c.args.place c.in-Some.text.item.now c.in-Loop.nest (loops_round c.in-Some.text) c.in-Some.ensures c.in-Loop.is in
    subst (λ (o : OwnLoop). AreOwnCells (tree_of c.args.program.now) o c.of_loop.result) (sym (ap (own_loop_at plan.cut) at)) c.of_loop.ensures

pub returns-in-Loop-clause-nest : goal.returns-in-Loop-clause-nest
returns-in-Loop-clause-nest c =
    let plan = c.args.plan.now in
    let at = there (tree_of c.args.program.now) plan c.args.place c.in-Some.text.item.now c.in-Loop.nest (loops_round c.in-Some.text) c.in-Some.ensures c.in-Loop.is in
    subst (λ (o : Option Placed). IsPlaced o c.in-Loop.nest) (sym at) refl
