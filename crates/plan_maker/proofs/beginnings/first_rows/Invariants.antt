use Rattle.std.proofs.Common.{◌≡◌, take}
use Rattle.plan_maker.proofs.beginnings.first_rows.Given as goal

abbrev pub invariant-loop-row : goal.invariant-loop-row
invariant-loop-row l = l.first ≡ record { vars = l.system.vars; rows = take l.row-index l.row-items }
