use Rattle.std.proofs.Common.{map, drop}
use Rattle.f77_scene.specs.Scene.{Given}
use Rattle.f77_source.specs.Bodies.{body_of}
use Rattle.f77_source.specs.Sources.{source_of}
use Rattle.f77_source.specs.Stages.{ArePassed}
use Rattle.f77_source.proofs.Staged.{Walked}
use Rattle.f77_source.proofs.walk.items_of.Given as goal

abbrev pub invariant-loop-source : goal.invariant-loop-source
invariant-loop-source l =
    (given : Given) → ArePassed given (map source_of l.sources) l.fn.known → Walked l.variables given l.fn.known l.known (body_of l.body) (map source_of l.sources) (map source_of (drop l.source-index l.sources))
