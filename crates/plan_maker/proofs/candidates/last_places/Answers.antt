use Rattle.std.proofs.Common.{ap, ◌∙◌}
use Rattle.std.proofs.lemmas.List.{take_all}
use Rattle.plan_maker.specs.Candidates.{last_places}
use Rattle.plan_maker.proofs.candidates.last_places.Goals as goal

pub returns : goal.returns
returns c = c.loop-kinds.invariant ∙ ap last_places (take_all c.loop-kinds.kinds-index c.args.candidates.now c.loop-kinds-test.false)
