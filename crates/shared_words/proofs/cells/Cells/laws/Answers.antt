use Rattle.std.proofs.Common.{ap, subst}
use Rattle.spmd_model.specs.Laws.{Laws}
use Rattle.shared_words.specs.Homes.{Home, plan_given, protocol_at, tree_given}
use Rattle.shared_words.specs.Runs.{IsRunnable}
use Rattle.shared_words.proofs.cells.Cells.laws.Goals as goal

pub returns-clause-laws : goal.returns-clause-laws
returns-clause-laws c = subst Laws (ap protocol_at c.self.view_is) c.self.invariant.laws

pub returns-clause-runnable : goal.returns-clause-runnable
returns-clause-runnable c = subst (λ (h : Home). IsRunnable (tree_given h.given) (plan_given h.given)) c.self.view_is c.self.invariant.runnable
