use Rattle.std.proofs.Common.{◌≡◌, vec_len}
use Rattle.f77_scene.specs.Trees.{closed}
use Rattle.f77_source.specs.Bodies.{body_of}
use Rattle.f77_source.proofs.body.Body.close.Given as goal

abbrev pub invariant-loop-self : goal.invariant-loop-self
invariant-loop-self l = closed l.label (body_of l.self).begun (body_of l.self).items ≡ closed l.label (body_of l.initial.self).begun (body_of l.initial.self).items

abbrev pub decreases-loop-self : goal.decreases-loop-self
decreases-loop-self l = vec_len l.self.begun
