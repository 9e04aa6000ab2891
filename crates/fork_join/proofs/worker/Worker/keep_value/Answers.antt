use Rattle.std.proofs.Common.{◌≡◌, ◌+◌, ℕ, ℤ, get_or, set, w64, FitsSigned, ap, ◌∙◌, arith, rules}
use Rattle.std.specs.Prelude.{pos}
use Rattle.std.proofs.lemmas.Int.{to_z-of_z}
use Rattle.fork_join.proofs.Closes.{cell_inside, cell_is, cell_there, nearer, private_closed, to}
use Rattle.fork_join.proofs.worker.Worker.keep_value.Goals as goal

pub cell-cell-requires : goal.cell-cell-requires
cell-cell-requires c = (to c.requires.closing c.args.place c.requires.next, cell_there c.requires.closing c.args.place c.requires.next c.own_cells.result.now c.own_cells.ensures)

pub bounds-memory-cell : goal.bounds-memory-cell
bounds-memory-cell c = cell_inside c.requires.closing c.args.place c.requires.next c.requires.safe c.own_cells.result.now c.cell-cell.result c.own_cells.ensures c.cell-cell.ensures

pub returns-clause-nearer : goal.returns-clause-nearer
returns-clause-nearer c = nearer c.requires.closing c.args.place c.requires.next c.pass.new.self c.pass.ensures.none c.pass.ensures.passed

pub returns-clause-closing : goal.returns-clause-closing
returns-clause-closing c =
    let more : c.further-self.result.done ≡ c.args.self.now.done.done + 2 = (let one = c.further.ensures in let two = c.further-self.ensures in omega (arith, one, two)) in
    let v = get_or c.args.self.now.own c.args.place (pos 0) in
    let fits : FitsSigned w64 v = search rules in
    let is = cell_is c.requires.closing c.args.place c.requires.next c.own_cells.result.now c.cell-cell.result c.own_cells.ensures c.cell-cell.ensures in
    let written = ap (λ (x : ℤ). set c.args.memory.now c.cell-cell.result x) (to_z-of_z w64 v fits) ∙ ap (λ (j : ℕ). set c.args.memory.now j v) is in
    let went = c.pass.ensures in
    private_closed c.requires.closing c.args.place c.requires.next c.pass.new.self went.none went.passed went.sound went.plain went.same c.requires.safe c.requires.below c.further-self.result _ c.requires.private more written
