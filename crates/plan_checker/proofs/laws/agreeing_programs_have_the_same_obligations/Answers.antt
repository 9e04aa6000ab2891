use Rattle.plan_checker.proofs.Agreeing.{agreeing_obligations, agreeing_shapes}
use Rattle.plan_checker.proofs.laws.agreeing_programs_have_the_same_obligations.Goals as goal

pub returns-clause-shape : goal.returns-clause-shape
returns-clause-shape c = agreeing_shapes

pub returns-clause-obligations : goal.returns-clause-obligations
returns-clause-obligations c = agreeing_obligations
