use Rattle.std.proofs.Common.{◌≤◌, take}
use Rattle.std.specs.List.{All}
use Rattle.flat_code.specs.Codes.{registers_of}
use Rattle.flat_code.proofs.table.most_needed.Given as goal

abbrev pub invariant-loop-code : goal.invariant-loop-code
invariant-loop-code l = All (λ code. registers_of code ≤ l.most) (take l.code-index l.codes)
