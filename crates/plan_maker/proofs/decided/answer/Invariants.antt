use Rattle.std.proofs.Common.{◌≡◌, ◌-◌, length}
use Rattle.fm_elim.specs.Advances.{IsLevel, system_of, order_of, gone_of}
use Rattle.plan_maker.proofs.decided.answer.Given as goal

-- a level of the same system in the same order
abbrev pub invariant-loop-next : goal.invariant-loop-next
invariant-loop-next l = record {
  level : IsLevel l.level;
  system : system_of l.level ≡ system_of l.fn.level;
  order : order_of l.level ≡ order_of l.fn.level;
}

-- the unknowns that are left
abbrev pub decreases-loop-next : goal.decreases-loop-next
decreases-loop-next l = length (order_of l.level) - gone_of l.level
