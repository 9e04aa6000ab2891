use Rattle.std.proofs.Common.{◌≡◌, ◌≤◌, ◌<◌, true}
use Rattle.std.specs.List.{sum}
use Rattle.plan_maker.specs.Searches.{IsSameSearch, IsSearch}
use Rattle.plan_maker.proofs.search.Search.pass_inside.Given as goal

abbrev pub invariant-loop-phase : goal.invariant-loop-phase
invariant-loop-phase l = record {
  search : IsSearch l.self;
  same : IsSameSearch l.initial.self l.self;
  least : sum l.self.taken.items ≤ sum l.initial.self.taken.items;
  weaker : l.changed ≡ true → sum l.self.taken.items < sum l.initial.self.taken.items;
}
