use Rattle.std.proofs.Common.{◌≡◌, ◌+◌, ℕ, get_or, set, w64, FitsSigned, ap, ◌∙◌, arith, rules}
use Rattle.std.specs.Prelude.{pos}
use Rattle.std.proofs.lemmas.Int.{wrapping_add_is}
use Rattle.nest_model.specs.Memory.{cell_value}
use Rattle.spmd_model.specs.Cells.{plus}
use Rattle.fork_join.proofs.Closes.{cell_inside, cell_is, cell_there, nearer, small, sum_closed, to}
use Rattle.fork_join.proofs.worker.Worker.add_total.Goals as goal

pub cell-cell-requires : goal.cell-cell-requires
cell-cell-requires c = (to c.requires.closing c.args.place c.requires.next, cell_there c.requires.closing c.args.place c.requires.next c.own_cells.result.now c.own_cells.ensures)

pub bounds-memory-cell : goal.bounds-memory-cell
bounds-memory-cell c = cell_inside c.requires.closing c.args.place c.requires.next c.requires.safe c.own_cells.result.now c.cell-cell.result c.own_cells.ensures c.cell-cell.ensures

pub slice_copy_out-memory : goal.slice_copy_out-memory
slice_copy_out-memory c = cell_inside c.requires.closing c.args.place c.requires.next c.requires.safe c.own_cells.result.now c.cell-cell.result c.own_cells.ensures c.cell-cell.ensures

pub returns-clause-nearer : goal.returns-clause-nearer
returns-clause-nearer c = nearer c.requires.closing c.args.place c.requires.next c.pass.new.self c.pass.ensures.none c.pass.ensures.passed

pub returns-clause-closing : goal.returns-clause-closing
returns-clause-closing c =
    let more : c.further-self.result.done ≡ c.args.self.now.done.done + 3 = (let one = c.further.ensures in let two = c.further-2.ensures in let three = c.further-self.ensures in omega (arith, one, two, three)) in
    let memory = c.args.memory.now in
    let v = get_or c.args.self.now.own c.args.place (pos 0) in
    let a = get_or memory c.cell-cell.result (pos 0) in
    let fits : FitsSigned w64 v = search rules in
    let fits_a : FitsSigned w64 a = search rules in
    let is = cell_is c.requires.closing c.args.place c.requires.next c.own_cells.result.now c.cell-cell.result c.own_cells.ensures c.cell-cell.ensures in
    let written = ap (set memory c.cell-cell.result) (wrapping_add_is w64 a v fits_a fits) ∙ ap (λ (j : ℕ). set memory j (plus (cell_value memory j) v)) is in
    let low = small c.requires.closing c.args.place c.requires.next in
    let went = c.pass.ensures in
    sum_closed c.requires.closing c.args.place c.requires.next c.pass.new.self went.none went.passed went.sound went.plain went.same c.requires.safe c.requires.below c.further-self.result _ c.requires.sum (omega (arith, low)) more written
