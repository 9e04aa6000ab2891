use Rattle.std.proofs.Common.{◌≡◌, ◌++◌, take}
use Rattle.plan_systems.specs.SystemsText.{systems_text}
use Rattle.plan_systems.proofs.lines.push_systems.Given as goal

abbrev pub invariant-loop-obligation : goal.invariant-loop-obligation
invariant-loop-obligation l = l.text.items ≡ l.initial.text.items ++ systems_text (take l.obligation-index l.found)
