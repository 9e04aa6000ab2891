use Rattle.std.specs.List.{sum}
use Rattle.plan_maker.specs.Searches.{IsSameSearch, IsSearch}
use Rattle.plan_maker.proofs.search.Search.settle_all.Given as goal

abbrev pub invariant-loop-reasons : goal.invariant-loop-reasons
invariant-loop-reasons l = record { search : IsSearch l.self; same : IsSameSearch l.fn.self l.self }

-- each pass that changes something takes earlier candidates
abbrev pub decreases-loop-reasons : goal.decreases-loop-reasons
decreases-loop-reasons l = sum l.self.taken.items
