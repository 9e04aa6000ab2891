use Rattle.std.proofs.Common.{◌≡◌, ◌≤◌, ◌<◌, true, false, take}
use Rattle.std.specs.List.{AllZip, sum}
use Rattle.plan_maker.specs.Candidates.{weaker_from}
use Rattle.plan_maker.specs.Searches.{IsSameSearch, IsSearch, IsTrialReason}
use Rattle.plan_maker.proofs.search.Search.pass.Given as goal

abbrev pub invariant-loop-phase : goal.invariant-loop-phase
invariant-loop-phase l = record {
  search : IsSearch l.self;
  same : IsSameSearch l.initial.self l.self;
  least : sum l.self.taken.items ≤ sum l.initial.self.taken.items;
  weaker : l.changed ≡ true → sum l.self.taken.items < sum l.initial.self.taken.items;
  reasons : l.changed ≡ false → AllZip (IsTrialReason l.self) (weaker_from 0 (take l.phase l.self.taken.items)) l.reasons.items;
}
