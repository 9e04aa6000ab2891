use Rattle.std.proofs.Common.{◌+◌, sym, ap, ◌∙◌}
use Rattle.std.specs.Prelude.{position}
use Rattle.std.specs.Option.{option_map}
use Rattle.nest_tree.specs.View.{statement_of}
use Rattle.nest_tree.proofs.Rows.{statement_of-Loop}
use Rattle.own_scalars.specs.OwnScalars.{is_of}
use Rattle.own_cells.specs.OwnCells.{assigned_place}
use Rattle.own_cells.proofs.cells.OwnCells.assigned_by.Goals as goal

pub returns-in-Assign : goal.returns-in-Assign
returns-in-Assign c =
    let sums = c.args.self.now.sums.items in
    c.sum_place.ensures ∙ ap (option_map (λ k. 16 + k)) (c.scalar_in.ensures.place ∙ ap (position (λ v. is_of v c.in-Assign.target)) c.as_slice.ensures.value) ∙ sym (ap (λ it. assigned_place sums (statement_of it)) c.in-Assign.is)

pub returns-in-Loop : goal.returns-in-Loop
returns-in-Loop c =
    let sums = c.args.self.now.sums.items in
    sym (ap (λ it. assigned_place sums (statement_of it)) c.in-Loop.is ∙ ap (assigned_place sums) (statement_of-Loop c.in-Loop.field-0))
