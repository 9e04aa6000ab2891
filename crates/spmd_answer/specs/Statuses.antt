-- The statuses of what is due for a request.
use Rattle.std.specs.Prelude.{Bool, true, false}
use Rattle.plan_input.specs.declared.status.Status.{Status}
use Rattle.plan_input.specs.declared.status.Status.TheVariants.{Done, SourceRefused, BadWords, PlanRefused}

-- 0, 1, 2 and 6
abbrev pub is_due : Status → Bool
is_due Done = true
is_due SourceRefused = true
is_due BadWords = true
is_due PlanRefused = true
is_due _ = false
