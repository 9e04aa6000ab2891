use Rattle.std.proofs.Common.{◌∙◌, ◌++◌, ap₂}
use Rattle.nest_tree.specs.View.{tree_of}
use Rattle.plan_checker.proofs.AcceptedOrder.{accepted_ordered}
use Rattle.spmd_answer.proofs.bench.bench_run.Goals as goal

pub output_by-requires-clause-ordered : goal.output_by-requires-clause-ordered
output_by-requires-clause-ordered g c κs within =
    accepted_ordered (tree_of c.args.program.now) c.in_ok-plan.plan c.args.program.now.formed c.requires.ranges c.in_ok-plan.ensures.accepted

pub returns : goal.returns
returns g c =
    λ bytes. record {
      plan = c.in_ok-plan.plan;
      written = (
        (c.in_ok-plan.field-0-1, c.in_ok-plan.ensures),
        c.in_ok-joined.ensures ∙ ap₂ (λ front behind. front ++ behind) c.in_ok-head.ensures (c.deref.ensures.value ∙ c.in_ok-output.ensures.output),
      );
      left = c.in_ok-output.ensures.receipt;
    }
