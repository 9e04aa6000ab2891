use Rattle.std.proofs.Common.{replicate, ap, ◌∙◌}
use Rattle.nest_walk.proofs.Alone.{levels_same}
use Rattle.nest_walk.proofs.frame.Frames.ended.Goals as goal

pub returns : goal.returns
returns c = λ k h. levels_same _ 6 k h ∙ ap (replicate k) c.ended.ensures
