use Rattle.std.proofs.Common.{◌==◌, ◌+◌, sym, ap, ◌∙◌}
use Rattle.std.specs.Prelude.{position}
use Rattle.std.specs.Option.{option_map, option_or}
use Rattle.sync_plan.specs.Own.{own_loop, place_in}
use Rattle.own_cells.proofs.Places.{placed}
use Rattle.own_cells.proofs.cells.OwnCells.place_of.Goals as goal

pub returns-in-Some : goal.returns-in-Some
returns-in-Some c = λ tree plan place are.
    let own = own_loop tree plan place in
    let is = sym (placed tree own.privates c.args.self.now.private_cells.items c.args.cell are.private_cells) ∙ (sym (c.place_in.ensures.place ∙ ap (position (λ n. n == c.args.cell)) c.as_slice.ensures.value) ∙ c.in-Some.is) in
    sym (ap (λ x. option_or x (option_map (λ k. 16 + k) (place_in tree own.sums c.args.cell))) is)

pub returns : goal.returns
returns c = λ tree plan place are.
    let own = own_loop tree plan place in
    let none = sym (placed tree own.privates c.args.self.now.private_cells.items c.args.cell are.private_cells) ∙ (sym (c.place_in.ensures.place ∙ ap (position (λ n. n == c.args.cell)) c.as_slice.ensures.value) ∙ c.in_default.is) in
    let sums = c.place_in-2.ensures.place ∙ ap (position (λ n. n == c.args.cell)) c.as_slice-2.ensures.value ∙ placed tree own.sums c.args.self.now.sum_cells.items c.args.cell are.sum_cells in
    c.sum_place.ensures ∙ ap (option_map (λ k. 16 + k)) sums ∙ sym (ap (λ x. option_or x (option_map (λ k. 16 + k) (place_in tree own.sums c.args.cell))) none)
