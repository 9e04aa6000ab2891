use Rattle.std.proofs.Common.{◌≡◌}
use Rattle.plan_maker.specs.Candidates.{weaker_at}
use Rattle.plan_maker.specs.Searches.{AreMoreReasons, IsSameSearch, IsSearch}
use Rattle.plan_maker.proofs.search.Search.settle.Given as goal

abbrev pub invariant-loop-place : goal.invariant-loop-place
invariant-loop-place l = record {
  search : IsSearch l.self;
  same : IsSameSearch l.initial.self l.self;
  taken : l.self.taken.items ≡ l.initial.self.taken.items;
  more : AreMoreReasons l.initial.self (weaker_at l.phase l.place) l.initial.reasons.items l.reasons.items;
}
