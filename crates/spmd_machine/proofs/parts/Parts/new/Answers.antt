use Rattle.std.proofs.Common.{◌≡◌, ◌≤◌, ◌<◌, ℕ, Bool, List, [], Option, Some, IfSome, pos, length, map, replicate, sum_by, ap, sym, ◌∙◌, subst, arith, rules}
use Rattle.std.specs.Prelude.{slice_get}
use Rattle.std.proofs.lemmas.List.{length-replicate, take_all}
use Rattle.std.proofs.lemmas.List.Elements.{All-nil}
use Rattle.nest_tree.specs.Layout.{cell_count}
use Rattle.nest_tree.specs.View.{statements_from, tree_of}
use Rattle.nest_tree.specs.declared.tree.Parameter.{Parameter}
use Rattle.nest_tree.proofs.Good.{loops-few}
use Rattle.nest_model.specs.Visits.{visits}
use Rattle.nest_walk.specs.Tables.{entries}
use Rattle.nest_walk.specs.Walks.{enters_but}
use Rattle.nest_walk.specs.declared.table.WorkCells.{WorkCells}
use Rattle.nest_walk.proofs.CellPlaces.{few_cells}
use Rattle.nest_walk.proofs.CursorMoves.{values_are}
use Rattle.seq_meaning.proofs.RunSteps.{written_back}
use Rattle.sync_plan.specs.declared.plan.Plan.{Plan}
use Rattle.spmd_model.specs.Quiet.{quiet_next}
use Rattle.spmd_model.proofs.Quiet.{none_quiet_next}
use Rattle.instance_runs.specs.Rooms.{AreSilent, longest_output, visit_room}
use Rattle.instance_runs.specs.Loads.{widths}
use Rattle.instance_runs.proofs.Silent.{room_of_walk}
use Rattle.instance_runs.proofs.TableLoads.{table_wide}
use Rattle.spmd_machine.specs.Machines.{model_of, shared_in, shown}
use Rattle.spmd_machine.specs.declared.parts.Parts.{Parts}
use Rattle.spmd_machine.proofs.Settling.{settled_first}
use Rattle.spmd_machine.proofs.Fresh.{first_is, fresh_rooms, kept_fresh, reached_first}
use Rattle.spmd_machine.proofs.parts.Parts.new.Goals as goal

pub overflow_cast-cell_count : goal.overflow_cast-cell_count
overflow_cast-cell_count c = search (rules, c.cell_count.ensures, few_cells (tree_of c.args.program.now) c.args.program.now.limits)

pub settle_all-requires : goal.settle_all-requires
unfolding shown
settle_all-requires c =
    let tree = tree_of c.args.program.now in
    let plan = c.args.plan.now in
    let size : c.cell_count.result ≡ cell_count tree = omega (arith, c.cell_count.ensures, few_cells tree c.args.program.now.limits) in
    let memory = c.in_ok-vec-3.ensures.items_if_clones_equal (λ y e. e) ∙ ap (λ n. replicate n (pos 0)) size in
    let ps = c.in_ok-processors_of.field-0.items in
    let count = c.in_ok-processors_of.ensures.count in
    let fresh = c.in_ok-processors_of.ensures.fresh in
    let table = c.in_ok-table.table in
    let wide = table_wide tree table c.args.program.now.formed c.in_ok-table.ensures in
    let all = take_all c.loop-parameter.parameter-index c.deref-parameter-items.result.now c.loop-parameter-test.false in
    let loops = ap (λ xs. length xs) (c.in_ok-vec.ensures.items_if_clones_equal (λ y e. e)) ∙ length-replicate 400 (pos 0) in
    let room_of_codes = ap (λ xs. length xs) (c.in_ok-vec-2.ensures.items_if_clones_equal (λ y e. e)) ∙ length-replicate c.registers-most.result (pos 0) in
    let cells = ap (λ xs. length xs) (c.in_ok-vec-3.ensures.items_if_clones_equal (λ y e. e)) ∙ length-replicate c.cell_count.result (pos 0) ∙ size in
    let most = subst (λ (o : Option ℕ). IfSome o (λ n. (k : ℕ) (w : WorkCells) → slice_get (entries table) k ≡ Some w → widths w.loads.items ≤ n)) c.in_ok-loaded.ensures.ok_part c.most_loads.ensures.most in
    let some : 1 ≤ c.max.result = omega (arith, c.max.ensures) in
    let larger : c.in_ok-loaded.loaded ≤ c.max.result = omega (arith, c.max.ensures) in
    let back = written_back c.in_ok-closed.closed.len c.open_printing.new.closed c.in_ok-closed.closed.items c.in_ok-closed.closed.ok.0 (c.open_printing.auto.closed ∙ ap (λ (l : List Bool). length l) c.deref_mut.ensures.value) in
    let silent = subst (λ xs. AreSilent c.open_printing.new.closed (statements_from xs)) c.deref.ensures.value c.open_printing.ensures.silent in
    let walked = subst (λ (o : Option ℕ). IfSome o (λ n. n ≡ sum_by (visit_room tree) (visits tree (enters_but c.deref-2.result.now)))) c.in_ok-room.ensures.ok_part c.longest_output.ensures in
    let room : c.in_ok-room.room ≡ longest_output tree = walked ∙ ap (λ marks. sum_by (visit_room tree) (visits tree (enters_but marks))) (c.deref-2.ensures.value ∙ back) ∙ room_of_walk tree c.open_printing.new.closed silent in
    record {
      ready = record {
        formed = c.args.program.now.formed;
        ranges = c.requires.ranges;
        fits = c.requires.fits;
        table = c.in_ok-table.ensures;
        wide = wide;
        codes = c.in_ok-codes.ensures;
        params = c.loop-parameter.invariant ∙ ap (map (λ (p : Parameter). p.value)) (all ∙ c.deref-parameter-items.ensures.value) ∙ sym (values_are c.args.program.now.params.items);
        loops = omega (arith, loops, loops-few tree c.args.program.now.formed);
        code_room = omega (arith, room_of_codes, c.registers-most.ensures);
        cells = cells;
        count = count;
        kept = λ p d lt. kept_fresh c.args.style tree plan c.max.result c.args.program.now.formed c.args.program.now.limits c.requires.fits c.requires.ranges (entries table) p _ (omega (arith, lt, count)) wide c.requires.ranges (λ n w at. omega (arith, most n w at, larger)) some (fresh p d lt);
        room = omega (arith, ap (λ (l : List ℕ). length l) c.in_ok-with_room.ensures.bytes, fresh_rooms c.args.style tree plan c.max.result c.args.program.now.formed c.args.program.now.limits c.requires.fits c.requires.ranges ps count fresh, room, c.in_ok-with_room.ensures.room);
        reached = reached_first c.args.style tree plan _ (first_is c.args.style tree plan c.max.result c.args.program.now.formed c.args.program.now.limits c.requires.fits c.requires.ranges c.in_ok-processors_of.field-0.items c.in_ok-processors_of.ensures.count c.in_ok-processors_of.ensures.fresh c.in_ok-vec-3.field-0.items c.in_ok-with_room.field-0.bytes memory c.in_ok-with_room.ensures.bytes);
      };
    }

pub returns-clause-first : goal.returns-clause-first
unfolding shown
returns-clause-first c =
    let tree = tree_of c.args.program.now in
    let plan = c.args.plan.now in
    let size : c.cell_count.result ≡ cell_count tree = omega (arith, c.cell_count.ensures, few_cells tree c.args.program.now.limits) in
    let memory = c.in_ok-vec-3.ensures.items_if_clones_equal (λ y e. e) ∙ ap (λ n. replicate n (pos 0)) size in
    let begun = first_is c.args.style tree plan c.max.result c.args.program.now.formed c.args.program.now.limits c.requires.fits c.requires.ranges c.in_ok-processors_of.field-0.items c.in_ok-processors_of.ensures.count c.in_ok-processors_of.ensures.fresh c.in_ok-vec-3.field-0.items c.in_ok-with_room.field-0.bytes memory c.in_ok-with_room.ensures.bytes in
    let first : Parts = record { program = c.args.program; plan = c.args.plan; style = c.args.style; table = c.in_ok-table.table; codes = c.in_ok-codes.codes; params = c.loop-parameter.params; loops = c.in_ok-vec.field-0; code_registers = c.in_ok-vec-2.field-0; processors = c.in_ok-processors_of.field-0; memory = c.in_ok-vec-3.field-0; output = c.in_ok-with_room.field-0 } in
    settled_first first c.settle_all.new.self begun c.settle_all.ensures.same c.settle_all.ensures.state

pub returns-clause-settled : goal.returns-clause-settled
returns-clause-settled c = λ p lt.
    let m = c.settle_all.new.self in
    ap (λ s. quiet_next (model_of m) (shared_in m) s p) (returns-clause-first c) ∙ none_quiet_next (model_of m) (shared_in m) [] p (All-nil (λ q. q < (model_of m).workers)) (omega (arith, lt, ap (λ (q : Plan). q.workers) c.settle_all.ensures.same.plan))
