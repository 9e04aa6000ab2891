use Rattle.std.proofs.Common.{◌≡◌, ℕ, ◌<◌, get_or}
use Rattle.plan_maker.specs.declared.cache.SlotCache.{SlotCache}
use Rattle.plan_maker.specs.Searches.{IsCurrent, IsSameSearch, IsSearch}
use Rattle.plan_maker.proofs.search.Search.try_kinds.Given as goal

abbrev pub invariant-loop-place : goal.invariant-loop-place
invariant-loop-place l = record {
  search : IsSearch l.self;
  same : IsSameSearch l.initial.self l.self;
  taken : l.self.taken ≡ l.initial.self.taken;
  passed : (j : ℕ) (d : SlotCache) → j < l.place → IsCurrent l.self.problem l.trial.kinds.now (get_or l.self.slots.items j d);
}
