use Rattle.std.proofs.Common.{sym, ◌∙◌}
use Rattle.spmd_machine.proofs.Kept.{picked}
use Rattle.spmd_machine.proofs.LastSteps.{cells_there, stored_below}
use Rattle.spmd_machine.proofs.LoadSteps.{slot_here, stores_here}
use Rattle.spmd_machine.proofs.WorkQuiets.{store_quiet}
use Rattle.spmd_machine.proofs.parts.Parts.assign_quietly.Goals as goal

pub returns-then-is_some-clause-quiet : goal.returns-then-is_some-clause-quiet
returns-then-is_some-clause-quiet c =
    let m = c.args.self.now in
    let (x, read) = picked m.processors.items c.args.p c.requires.worker in
    let (cells, at) = cells_there m c.requires.ready c.args.p x c.requires.worker read c.args.stop c.requires.next in
    let spot = c.store_spot-spot.result in
    let stores = stores_here m c.requires.ready c.args.p x c.requires.worker read c.args.stop c.requires.next spot.cell c.store_spot-spot.ensures.stores in
    let below = stored_below m c.requires.ready c.args.p x c.requires.worker read c.args.stop c.requires.next cells at c.requires.loaded spot.cell stores in
    let slot = slot_here m c.requires.ready c.args.p x c.requires.worker read c.args.stop c.requires.next spot c.store_spot-spot.ensures.own in
    sym (store_quiet m c.requires.ready c.args.p x c.requires.worker read c.args.stop c.requires.next cells at c.requires.loaded spot.cell spot.own stores below slot ∙ sym c.is_some.ensures ∙ c.if-is_some.true)

pub returns-clause-quiet : goal.returns-clause-quiet
returns-clause-quiet c =
    let m = c.args.self.now in
    let (x, read) = picked m.processors.items c.args.p c.requires.worker in
    let (cells, at) = cells_there m c.requires.ready c.args.p x c.requires.worker read c.args.stop c.requires.next in
    let spot = c.store_spot-spot.result in
    let stores = stores_here m c.requires.ready c.args.p x c.requires.worker read c.args.stop c.requires.next spot.cell c.store_spot-spot.ensures.stores in
    let below = stored_below m c.requires.ready c.args.p x c.requires.worker read c.args.stop c.requires.next cells at c.requires.loaded spot.cell stores in
    let slot = slot_here m c.requires.ready c.args.p x c.requires.worker read c.args.stop c.requires.next spot c.store_spot-spot.ensures.own in
    sym (store_quiet m c.requires.ready c.args.p x c.requires.worker read c.args.stop c.requires.next cells at c.requires.loaded spot.cell spot.own stores below slot ∙ sym c.is_some.ensures ∙ c.if-is_some.false)
