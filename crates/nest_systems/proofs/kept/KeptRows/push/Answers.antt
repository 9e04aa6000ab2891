use Rattle.std.proofs.Common.{ap, ◌∙◌}
use Rattle.farkas_cert.specs.Inequalities.{Inequalities}
use Rattle.nest_systems.proofs.kept.KeptRows.push.Goals as goal

pub row_over-requires-clause-count : goal.row_over-requires-clause-count
row_over-requires-clause-count c = c.vars-count.ensures ∙ ap (λ (s : Inequalities). s.vars) c.as_system.ensures.system ∙ c.requires.vars
