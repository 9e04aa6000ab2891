use denote.Param.Send.{sendable}
use Rattle.std.proofs.Common.{ap, sym, subst, lit<}
use Rattle.std.proofs.Crossing.{crosses}
use Rattle.shared_words.specs.Calls.{ArrivesNext, GathersNext}
use Rattle.shared_words.specs.Homes.{CellView, gone}
use Rattle.shared_words.proofs.cells.CellSeat.TheSendSync as seat
use Rattle.house_tests.proofs.StraightLine.{meets}
use Rattle.spmd_workers.proofs.Crosses.{Cells-sync}
use Rattle.house_tests.proofs.examples.words.two_threads.Goals as goal

pub join-requires-send-F : goal.join-requires-send-F
join-requires-send-F g c κs within = search (sendable, crosses, Cells-sync, seat.the_send) depth 20

pub join-requires-after_bounds : goal.join-requires-after_bounds
join-requires-after_bounds g c κs within =
    let one = c.seat_for-first.ensures.seat in
    let other = c.seat_for-second.ensures.seat in
    let here = meets c.in_ok-cells.cells c.args.program.now c.args.plan.now c.in_ok-cells.ensures.given c.requires.line c.requires.plan in
    let first = here 0 (lit< tt) in
    let second = here 1 (lit< tt) in (
      λ ls at n same name more. (ap (λ (v : CellView). v.home) one, (subst (λ (v : CellView). ArrivesNext v 0) (sym one) first.0, subst (λ (v : CellView). GathersNext (gone v) 0) (sym one) first.1)),
      λ ls at n same name more. (ap (λ (v : CellView). v.home) other, (subst (λ (v : CellView). ArrivesNext v 0) (sym other) second.0, subst (λ (v : CellView). GathersNext (gone v) 0) (sym other) second.1)),
    )
