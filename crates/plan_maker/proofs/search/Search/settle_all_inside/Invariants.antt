use Rattle.std.specs.List.{sum}
use Rattle.plan_maker.specs.Searches.{IsSameSearch, IsSearch}
use Rattle.plan_maker.proofs.search.Search.settle_all_inside.Given as goal

abbrev pub invariant-loop : goal.invariant-loop
invariant-loop l = record { search : IsSearch l.self; same : IsSameSearch l.initial.self l.self }

-- each pass that changes something takes earlier candidates
abbrev pub decreases-loop : goal.decreases-loop
decreases-loop l = sum l.self.taken.items
