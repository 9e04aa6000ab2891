use Rattle.std.proofs.Common.{◌≡◌, sym, ◌∙◌, ap, subst, arith}
use Rattle.std.proofs.Common.{length}
use Rattle.shared_words.specs.Calls.{IsEndedSeat}
use Rattle.shared_words.specs.Homes.{protocol_in, misses_of, position_of, processor_of, role_in, seen_of, stages_of}
use Rattle.shared_words.proofs.Seating.{join_allowed}
use Rattle.shared_words.specs.Homes.{CellView, Home, MainView}
use Rattle.shared_words.proofs.cells.Cells.take_in.Goals as goal

pub join_seat-requires : goal.join_seat-requires
join_seat-requires c =
    let s = c.main.inside in let t = c.seat.inside in let v = t.seat.me.0 in let mine = c.seat.invariant.0 in let wide = c.self.invariant.words in
    let end : position_of (role_in v) ≡ length ((protocol_in v).acts t.processor) = subst IsEndedSeat (sym c.seat.view_is) c.requires.ended ∙ ap (λ k. length ((protocol_in v).acts k)) (ap processor_of mine.role) in
    let own = ap (λ (x : MainView). x.home) c.main.view_is ∙ c.requires.own ∙ sym c.self.view_is in
    let theirs = ap (λ (x : CellView). x.home) c.seat.view_is ∙ c.requires.seat ∙ sym c.self.view_is in (
      ap (λ (h : Home). h.table) own,
      ap (λ (h : Home). h.table) theirs,
      c.seat.invariant.1,
      omega (arith, wide),
      join_allowed c.self.inside.table.shared.key s.seat.id t.seat.id s.seat.me.0 v (stages_of (role_in s.seat.me.0)) t.processor (position_of (role_in v)) (misses_of (role_in v)) (seen_of (role_in v)) c.main.invariant.0 mine.role end,
    )
