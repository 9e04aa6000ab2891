use Rattle.std.proofs.Common.{IsTrue, length, subst, sym}
use Rattle.nest_tree.specs.Form.{reach_within}
use Rattle.plan_shape.proofs.Rows.{row_parts}
use Rattle.plan_shape.proofs.conditions.meets.Goals as goal

pub constant_sum-requires-clause-given : goal.constant_sum-requires-clause-given
constant_sum-requires-clause-given c = subst (λ ps. IsTrue (reach_within (length c.args.constants.now) ps)) (sym c.as_slice.ensures) (row_parts (length c.args.constants.now) c.args.row.now c.requires).given
