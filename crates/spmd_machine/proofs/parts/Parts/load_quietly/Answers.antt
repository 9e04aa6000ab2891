use Rattle.std.proofs.Common.{Some, subst, sym, ◌∙◌}
use Rattle.spmd_machine.specs.Machines.{LoadsNext}
use Rattle.spmd_machine.proofs.LastSteps.{cells_there}
use Rattle.spmd_machine.proofs.LoadSteps.{cell_here, inside, slot_is, spot_next}
use Rattle.spmd_machine.proofs.Ready.{kept_here}
use Rattle.spmd_machine.proofs.WorkQuiets.{load_quiet}
use Rattle.spmd_machine.proofs.parts.Parts.load_quietly.Goals as goal

pub spot-spot-requires-clause-sound : goal.spot-spot-requires-clause-sound
spot-spot-requires-clause-sound c = (kept_here c.args.self.now c.requires.ready c.args.p c.index.result.now c.index.result.now c.requires.worker c.index.ensures).sound

pub spot-spot-requires-clause-cell : goal.spot-spot-requires-clause-cell
spot-spot-requires-clause-cell c =
    let m = c.args.self.now in
    let x = c.index.result.now in
    let read = c.index.ensures in
    let (cells, at) = cells_there m c.requires.ready c.args.p x c.requires.worker read c.args.stop c.requires.next in
    cell_here m c.requires.ready c.args.p x c.requires.worker read c.args.stop c.requires.next c.args.cell (inside m c.requires.ready c.args.p x c.requires.worker read c.args.stop c.requires.next cells at c.args.cell c.requires.left)

pub load-requires-clause-left : goal.load-requires-clause-left
load-requires-clause-left c = subst (λ n. LoadsNext c.args.self.now c.args.p c.args.stop (Some n)) (sym c.spot-spot.ensures.cell) c.requires.left

pub load-requires-clause-own : goal.load-requires-clause-own
load-requires-clause-own c = spot_next c.args.self.now c.requires.ready c.args.p c.index.result.now c.requires.worker c.index.ensures c.args.stop c.requires.next c.spot-spot.result c.args.cell c.spot-spot.ensures.cell c.spot-spot.ensures.own

pub returns-then-is_some-clause-quiet : goal.returns-then-is_some-clause-quiet
returns-then-is_some-clause-quiet c =
    let m = c.args.self.now in
    let x = c.index.result.now in
    let read = c.index.ensures in
    let (cells, at) = cells_there m c.requires.ready c.args.p x c.requires.worker read c.args.stop c.requires.next in
    let slot = slot_is m c.requires.ready c.args.p x c.requires.worker read c.args.stop c.requires.next c.args.cell c.spot-spot.result.own c.spot-spot.ensures.own in
    sym (load_quiet m c.requires.ready c.args.p x c.requires.worker read c.args.stop c.requires.next cells at c.args.cell c.spot-spot.result.own c.requires.left slot ∙ sym c.is_some.ensures ∙ c.if-is_some.true)

pub returns-clause-quiet : goal.returns-clause-quiet
returns-clause-quiet c =
    let m = c.args.self.now in
    let x = c.index.result.now in
    let read = c.index.ensures in
    let (cells, at) = cells_there m c.requires.ready c.args.p x c.requires.worker read c.args.stop c.requires.next in
    let slot = slot_is m c.requires.ready c.args.p x c.requires.worker read c.args.stop c.requires.next c.args.cell c.spot-spot.result.own c.spot-spot.ensures.own in
    sym (load_quiet m c.requires.ready c.args.p x c.requires.worker read c.args.stop c.requires.next cells at c.args.cell c.spot-spot.result.own c.requires.left slot ∙ sym c.is_some.ensures ∙ c.if-is_some.false)
