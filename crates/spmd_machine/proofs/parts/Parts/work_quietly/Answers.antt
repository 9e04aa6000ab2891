use Rattle.std.proofs.Common.{subst}
use Rattle.turns.specs.CountersLeft.{counters_tree}
use Rattle.spmd_machine.specs.Machines.{LoadsNext}
use Rattle.spmd_machine.proofs.LoadSteps.{at_load, inst, loads_next}
use Rattle.spmd_machine.proofs.parts.Parts.work_quietly.Goals as goal

pub cell-requires : goal.cell-requires
cell-requires c =
    let m = c.args.self.now in
    let x = c.index-processor.result.now in
    let read = c.index-processor.ensures in
    (counters_tree x.turns.counters, x.done, at_load m c.requires.ready c.args.p x c.requires.worker read c.args.stop c.requires.next c.path-path.result.now c.path-path.ensures (inst m c.requires.ready c.args.p x c.requires.worker read c.args.stop c.requires.next))

pub load_quietly-requires-clause-left : goal.load_quietly-requires-clause-left
load_quietly-requires-clause-left c =
    let m = c.args.self.now in
    let next = loads_next m c.requires.ready c.args.p c.index-processor.result.now c.requires.worker c.index-processor.ensures c.args.stop c.requires.next c.path-path.result.now c.path-path.ensures c.cell.result c.cell.ensures in
    subst (LoadsNext m c.args.p c.args.stop) c.in-Some.is next

pub store_quietly-requires-clause-loaded : goal.store_quietly-requires-clause-loaded
store_quietly-requires-clause-loaded c =
    let m = c.args.self.now in
    let next = loads_next m c.requires.ready c.args.p c.index-processor.result.now c.requires.worker c.index-processor.ensures c.args.stop c.requires.next c.path-path.result.now c.path-path.ensures c.cell.result c.cell.ensures in
    subst (LoadsNext m c.args.p c.args.stop) c.in-None.is next
