use Rattle.std.proofs.Common.{◌≡◌, ◌-◌, length}
use Rattle.fm_elim.specs.Advances.{IsLevel, system_of, order_of, gone_of}
use Rattle.plan_maker.proofs.decided.advance_short.Given as goal

-- a level of the same system in the same order
abbrev pub invariant-loop-alloc : goal.invariant-loop-alloc
invariant-loop-alloc l = record {
  level : IsLevel l.level;
  system : system_of l.level ≡ system_of l.fn.level;
  order : order_of l.level ≡ order_of l.fn.level;
}

-- the unknowns that are left
abbrev pub decreases-loop-alloc : goal.decreases-loop-alloc
decreases-loop-alloc l = length (order_of l.level) - gone_of l.level
