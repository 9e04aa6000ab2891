use Rattle.std.proofs.Common.{◌≡◌, [], replicate}
use Rattle.maker_marks.proofs.cut.without_privates.Given as goal

-- an empty list for each loop so far
abbrev pub invariant-loop : goal.invariant-loop
invariant-loop l = l.lists.items ≡ replicate l.counter []
