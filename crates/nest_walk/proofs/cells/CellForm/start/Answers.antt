use Rattle.std.proofs.Common.{◌≡◌, ◌<◌, get_or, length, pos, ◌∙◌, w64, rules, FitsSigned}
use Rattle.std.proofs.lemmas.Int.{to_z-of_z}
use Rattle.nest_walk.proofs.CellSums.{dot_step, sum_done}
use Rattle.nest_walk.proofs.cells.CellForm.start.Goals as goal

pub loop-depth-preserved : goal.loop-depth-preserved
loop-depth-preserved c =
    let i = c.loop-depth.depth in
    let steps = c.args.self.now.steps in
    let values = c.args.values.now in
    let f : FitsSigned w64 c.with_product-sum.result = search rules in
    let g : FitsSigned w64 (get_or steps i (pos 0)) = search rules in
    let h : FitsSigned w64 (get_or values i (pos 0)) = search rules in
    let e = simp to_z-of_z at c.with_product-sum.ensures in
    let within : i < length steps = search rules in
    let within' : i < length values = search rules in
    simp to_z-of_z (dot_step steps values i _ _ within within' e ∙ c.loop-depth.invariant)

pub returns : goal.returns
returns c =
    let six : length c.args.self.now.steps ≡ 6 = search rules in
    let fits : FitsSigned w64 c.loop-depth.sum = search rules in
    let sum = sum_done c.args.self.now.steps c.args.values.now c.loop-depth.depth _ _ six c.loop-depth-test.false (rw (← c.loop-depth.sum-is) at fits) c.loop-depth.invariant in
    sum
