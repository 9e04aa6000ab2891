use Rattle.std.proofs.Common.{ap, subst, sym, ◌∙◌}
use Rattle.nest_walk.specs.Paths.{by_depth}
use Rattle.spmd_machine.specs.Machines.{StoresNext}
use Rattle.spmd_machine.proofs.Kept.{picked}
use Rattle.spmd_machine.proofs.LastSteps.{some_store, table_below, table_stores}
use Rattle.spmd_machine.proofs.LoadSteps.{cell_here, high, low, spot_next, stores_next}
use Rattle.spmd_machine.proofs.Ready.{kept_here}
use Rattle.spmd_machine.proofs.parts.Parts.store_spot.Goals as goal

pub work-requires-clause-low : goal.work-requires-clause-low
work-requires-clause-low c =
    let m = c.args.self.now in
    let (x, read) = picked m.processors.items c.args.p c.requires.worker in
    low m c.requires.ready c.args.p x c.requires.worker read c.args.stop c.requires.next

pub work-requires-clause-high : goal.work-requires-clause-high
work-requires-clause-high c =
    let m = c.args.self.now in
    let (x, read) = picked m.processors.items c.args.p c.requires.worker in
    high m c.requires.ready c.args.p x c.requires.worker read c.args.stop c.requires.next

pub unreachable-requires : goal.unreachable-requires
unreachable-requires c =
    let m = c.args.self.now in
    let (target, e, guard, line, statement) = c.requires.statement in
    let (x, read) = picked m.processors.items c.args.p c.requires.worker in
    some_store m c.requires.ready c.args.p x c.requires.worker read c.args.stop c.requires.next c.work.result.now c.work.ensures c.requires.loaded e target guard line statement c.in_default.is

pub spot-requires-clause-sound : goal.spot-requires-clause-sound
spot-requires-clause-sound c = (kept_here c.args.self.now c.requires.ready c.args.p c.index-processor.result.now c.index-processor.result.now c.requires.worker c.index-processor.ensures).sound

pub spot-requires-clause-cell : goal.spot-requires-clause-cell
spot-requires-clause-cell c =
    let m = c.args.self.now in
    let x = c.index-processor.result.now in
    let read = c.index-processor.ensures in
    cell_here m c.requires.ready c.args.p x c.requires.worker read c.args.stop c.requires.next c.at.result
    (table_below m c.requires.ready c.args.p x c.requires.worker read c.args.stop c.requires.next c.work.result.now c.work.ensures c.requires.loaded c.in-Some.form c.in-Some.is c.at.result c.values.result.now c.at.ensures (c.values.ensures ∙ ap by_depth c.path-path.ensures))

pub returns-clause-stores : goal.returns-clause-stores
returns-clause-stores c =
    let m = c.args.self.now in
    let x = c.index-processor.result.now in
    let read = c.index-processor.ensures in
    let depth = c.values.ensures ∙ ap by_depth c.path-path.ensures in
    let stores = table_stores m c.requires.ready c.args.p x c.requires.worker read c.args.stop c.requires.next c.work.result.now c.work.ensures c.requires.loaded c.in-Some.form c.in-Some.is c.at.result c.values.result.now c.at.ensures depth in
    subst (StoresNext m c.args.p c.args.stop) (sym c.spot.ensures.cell) (stores_next m c.requires.ready c.args.p x c.requires.worker read c.args.stop c.requires.next c.at.result stores)

pub returns-clause-own : goal.returns-clause-own
returns-clause-own c =
    let m = c.args.self.now in
    let x = c.index-processor.result.now in
    let read = c.index-processor.ensures in
    spot_next m c.requires.ready c.args.p x c.requires.worker read c.args.stop c.requires.next c.spot.result c.at.result c.spot.ensures.cell c.spot.ensures.own
