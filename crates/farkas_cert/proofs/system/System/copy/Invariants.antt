use Rattle.std.proofs.Common.{◌≡◌, take}
use Rattle.farkas_cert.proofs.system.System.copy.Given as goal

abbrev pub invariant-loop-row : goal.invariant-loop-row
invariant-loop-row l = l.copy ≡ record { vars = l.fn.self.vars; rows = take l.row-index l.fn.self.rows }
