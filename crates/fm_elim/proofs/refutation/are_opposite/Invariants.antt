use Rattle.std.proofs.Common.{◌≡◌, neg_ℤ, map, take}
use Rattle.fm_elim.proofs.refutation.are_opposite.Given as goal

-- the numbers so far are the others, each with the other sign
abbrev pub invariant-loop-k : goal.invariant-loop-k
invariant-loop-k l = take l.k l.others ≡ map neg_ℤ (take l.k l.numbers)
