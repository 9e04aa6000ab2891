use Rattle.plan_maker.specs.Searches.{IsSameSearch, IsSearch}
use Rattle.plan_maker.proofs.search.Search.settle_by_depth.Given as goal

abbrev pub invariant-loop-depth : goal.invariant-loop-depth
invariant-loop-depth l = record { search : IsSearch l.self; same : IsSameSearch l.initial.self l.self }
