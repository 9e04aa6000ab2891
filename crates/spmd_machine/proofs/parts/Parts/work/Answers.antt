use Rattle.std.proofs.Common.{Some, subst, sym}
use Rattle.turns.specs.CountersLeft.{counters_tree}
use Rattle.spmd_machine.specs.Machines.{LoadsNext}
use Rattle.spmd_machine.proofs.LastSteps.{cells_there}
use Rattle.spmd_machine.proofs.LoadSteps.{at_load, cell_here, inside, inst, loads_next, spot_next}
use Rattle.spmd_machine.proofs.Ready.{kept_here}
use Rattle.spmd_machine.proofs.parts.Parts.work.Goals as goal

pub cell-requires : goal.cell-requires
cell-requires c =
    let m = c.args.self.now in
    let x = c.index-processor.result.now in
    let read = c.index-processor.ensures in
    (counters_tree x.turns.counters, x.done, at_load m c.requires.ready c.args.p x c.requires.worker read c.args.stop c.requires.next c.path-path.result.now c.path-path.ensures (inst m c.requires.ready c.args.p x c.requires.worker read c.args.stop c.requires.next))

pub spot-spot-requires-clause-sound : goal.spot-spot-requires-clause-sound
spot-spot-requires-clause-sound c = (kept_here c.args.self.now c.requires.ready c.args.p c.index-processor.result.now c.index-processor.result.now c.requires.worker c.index-processor.ensures).sound

pub spot-spot-requires-clause-cell : goal.spot-spot-requires-clause-cell
spot-spot-requires-clause-cell c =
    let m = c.args.self.now in
    let x = c.index-processor.result.now in
    let read = c.index-processor.ensures in
    let (cells, at) = cells_there m c.requires.ready c.args.p x c.requires.worker read c.args.stop c.requires.next in
    let next = loads_next m c.requires.ready c.args.p x c.requires.worker read c.args.stop c.requires.next c.path-path.result.now c.path-path.ensures c.cell.result c.cell.ensures in
    cell_here m c.requires.ready c.args.p x c.requires.worker read c.args.stop c.requires.next c.in-Some.cell (inside m c.requires.ready c.args.p x c.requires.worker read c.args.stop c.requires.next cells at c.in-Some.cell (subst (LoadsNext m c.args.p c.args.stop) c.in-Some.is next))

pub load-requires-clause-left : goal.load-requires-clause-left
load-requires-clause-left c =
    let m = c.args.self.now in
    let next = loads_next m c.requires.ready c.args.p c.index-processor.result.now c.requires.worker c.index-processor.ensures c.args.stop c.requires.next c.path-path.result.now c.path-path.ensures c.cell.result c.cell.ensures in
    subst (λ n. LoadsNext m c.args.p c.args.stop (Some n)) (sym c.spot-spot.ensures.cell) (subst (LoadsNext m c.args.p c.args.stop) c.in-Some.is next)

pub load-requires-clause-own : goal.load-requires-clause-own
load-requires-clause-own c = spot_next c.args.self.now c.requires.ready c.args.p c.index-processor.result.now c.requires.worker c.index-processor.ensures c.args.stop c.requires.next c.spot-spot.result c.in-Some.cell c.spot-spot.ensures.cell c.spot-spot.ensures.own

pub last_act-requires-clause-loaded : goal.last_act-requires-clause-loaded
last_act-requires-clause-loaded c =
    let m = c.args.self.now in
    let next = loads_next m c.requires.ready c.args.p c.index-processor.result.now c.requires.worker c.index-processor.ensures c.args.stop c.requires.next c.path-path.result.now c.path-path.ensures c.cell.result c.cell.ensures in
    subst (LoadsNext m c.args.p c.args.stop) c.in_default.is next
