use Rattle.std.proofs.Common.{List, [], ℕ, ◌<◌, sym, ◌∙◌, ap, subst, arith}
use Rattle.spmd_model.specs.Protocols.{Protocol}
use Rattle.shared_words.specs.declared.view.View.{View}
use Rattle.shared_words.specs.Rule.{first_of}
use Rattle.shared_words.specs.Homes.{IsSeatOf, protocol_at, role_in, stages_of}
use Rattle.shared_words.proofs.Seating.{split_allowed}
use Rattle.shared_words.proofs.Calls.{first_seat_of}
use Rattle.std.specs.Prelude.{slice_get}
use Rattle.shared_words.specs.Homes.{Home, MainView}
use Rattle.shared_words.proofs.cells.Cells.cut.Goals as goal

pub split_seat-requires : goal.split_seat-requires
split_seat-requires g c =
    let s = c.main.inside in let wide = c.self.invariant.words in
    let own = ap (λ (x : MainView). x.home) c.main.view_is ∙ c.requires.own ∙ sym c.self.view_is in (
      ap (λ (h : Home). h.table) own,
      omega (arith, wide),
      split_allowed c.self.inside.table.shared.key s.seat.id c.args.p g.J.Which.which s.seat.me.0 (stages_of (role_in s.seat.me.0)) c.main.invariant.0 c.requires.which (ap (λ (x : MainView). slice_get x.stages c.args.p) c.main.view_is ∙ c.requires.idle),
    )

pub invariant_of-result : goal.invariant_of-result
invariant_of-result g c =
    let s = c.main.inside in let v = s.seat.me.0 in
    let own = ap (λ (x : MainView). x.home) c.main.view_is ∙ c.requires.own in
    let made = c.split_seat.ensures.4 in let new = made ∙ (λ i. (first_of (sym c.requires.which i) v, [])) in (
      subst (λ (x : View). IsSeatOf x c.args.p 0) (sym (ap (λ (x : View × List (ℕ × ℕ)). x.0) new)) (first_seat_of v (stages_of (role_in v)) c.args.p c.main.invariant.0 (subst (λ (m : Protocol). c.args.p < m.workers) (sym (ap protocol_at own)) c.requires.worker)),
      ap (λ (x : View × List (ℕ × ℕ)). x.1) new,
    )
