use Rattle.spmd_model.specs.PlanProtocols.{acts_by}
use Rattle.spmd_model.proofs.PlanBarriers.{await_counts, post_counts}
use Rattle.spmd_model.proofs.protocols.arrivals_in_styles.Goals as goal

pub returns-clause-posts : goal.returns-clause-posts
unfolding acts_by
returns-clause-posts c = post_counts

pub returns-clause-awaits : goal.returns-clause-awaits
unfolding acts_by
returns-clause-awaits c = await_counts
