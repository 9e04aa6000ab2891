use Rattle.std.proofs.Common.{w64, IsTrue, to_z, of_z, rules}
use Rattle.nest_tree.specs.Form.{rises_above}
use Rattle.f77_program.proofs.Summed.{ascends, Ascends-times}
use Rattle.f77_program.proofs.linear.multiple.Goals as goal

pub limited-requires-clause-loops : goal.limited-requires-clause-loops
limited-requires-clause-loops c =
    let h : IsTrue (rises_above 0 c.loops.result.now) = search rules in
    rw c.in_ok-loops.ensures (Ascends-times 0 (to_z w64 (of_z w64 c.args.factor)) c.loops.result.now (ascends 0 c.loops.result.now h))

pub limited-requires-clause-params : goal.limited-requires-clause-params
limited-requires-clause-params c =
    let h : IsTrue (rises_above 0 c.params.result.now) = search rules in
    rw c.in_ok-params.ensures (Ascends-times 0 (to_z w64 (of_z w64 c.args.factor)) c.params.result.now (ascends 0 c.params.result.now h))
