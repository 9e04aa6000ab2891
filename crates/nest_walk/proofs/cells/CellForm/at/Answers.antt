use Rattle.std.proofs.Common.{ap, ◌∙◌, FitsSigned, of_z, rules, to_z, w64}
use Rattle.std.proofs.lemmas.Int.{to_z-of_z}
use Rattle.nest_tree.specs.Layout.{count_of}
use Rattle.nest_walk.proofs.Steps.{count_none, count_some}
use Rattle.nest_walk.proofs.cells.CellForm.at.Goals as goal

pub returns-then-sum-gt0 : goal.returns-then-sum-gt0
returns-then-sum-gt0 c =
    let fits : FitsSigned w64 c.start-sum.result = search rules in
    count_some (to_z w64 (of_z w64 c.start-sum.result)) c.if-sum-gt0.true ∙ ap count_of (to_z-of_z w64 c.start-sum.result fits ∙ c.start-sum.ensures)

pub returns-else-sum-gt0 : goal.returns-else-sum-gt0
returns-else-sum-gt0 c =
    let fits : FitsSigned w64 c.start-sum.result = search rules in
    count_none (to_z w64 (of_z w64 c.start-sum.result)) c.if-sum-gt0.false ∙ ap count_of (to_z-of_z w64 c.start-sum.result fits ∙ c.start-sum.ensures)
