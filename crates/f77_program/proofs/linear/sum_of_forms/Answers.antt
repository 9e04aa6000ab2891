use Rattle.std.proofs.Common.{IsTrue, rules}
use Rattle.nest_tree.specs.Form.{rises_above}
use Rattle.f77_program.proofs.Summed.{ascends, Ascends-plus}
use Rattle.f77_program.proofs.linear.sum_of_forms.Goals as goal

pub limited-requires-clause-loops : goal.limited-requires-clause-loops
limited-requires-clause-loops c =
    let h : IsTrue (rises_above 0 c.loops.result.now) = search rules in
    let k : IsTrue (rises_above 0 c.loops-2.result.now) = search rules in
    rw c.in_ok-loops.ensures (Ascends-plus 0 c.loops.result.now c.loops-2.result.now (ascends 0 c.loops.result.now h) (ascends 0 c.loops-2.result.now k))

pub limited-requires-clause-params : goal.limited-requires-clause-params
limited-requires-clause-params c =
    let h : IsTrue (rises_above 0 c.params.result.now) = search rules in
    let k : IsTrue (rises_above 0 c.params-2.result.now) = search rules in
    rw c.in_ok-params.ensures (Ascends-plus 0 c.params.result.now c.params-2.result.now (ascends 0 c.params.result.now h) (ascends 0 c.params-2.result.now k))
