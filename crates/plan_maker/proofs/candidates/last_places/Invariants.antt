use Rattle.std.proofs.Common.{◌≡◌, take}
use Rattle.plan_maker.specs.Candidates.{last_places}
use Rattle.plan_maker.proofs.candidates.last_places.Given as goal

abbrev pub invariant-loop-kinds : goal.invariant-loop-kinds
invariant-loop-kinds l = l.places.items ≡ last_places (take l.kinds-index l.candidates)
