use Rattle.std.proofs.Common.{◌≡◌, ◌-◌, length}
use Rattle.fm_elim.specs.Advances.{IsLevel, system_of, order_of, gone_of}
use Rattle.range_check.proofs.effort.refuted_by_short_levels.Given as goal

-- a level of the system
abbrev pub invariant-loop-alloc : goal.invariant-loop-alloc
invariant-loop-alloc l = record {
  level : IsLevel l.level;
  system : system_of l.level ≡ l.system;
}

-- the unknowns that are left
abbrev pub decreases-loop-alloc : goal.decreases-loop-alloc
decreases-loop-alloc l = length (order_of l.level) - gone_of l.level
