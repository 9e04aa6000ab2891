use Rattle.std.proofs.Common.{◌≡◌, ◌++◌, take}
use Rattle.plan_systems.specs.SystemsText.{coefs_text}
use Rattle.plan_systems.proofs.lines.push_coefs.Given as goal

abbrev pub invariant-loop-coef : goal.invariant-loop-coef
invariant-loop-coef l = l.text.items ≡ l.initial.text.items ++ coefs_text (take l.coef-index l.coefs)
