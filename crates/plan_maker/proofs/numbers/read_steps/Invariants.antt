use Rattle.std.proofs.Common.{◌≡◌, true, take}
use Rattle.std.specs.List.{list_all}
use Rattle.sync_plan.specs.Numbers.{is_step_shown}
use Rattle.plan_maker.proofs.numbers.read_steps.Given as goal

abbrev pub invariant-loop-step : goal.invariant-loop-step
invariant-loop-step l = list_all is_step_shown (take l.step-index l.steps) ≡ true
