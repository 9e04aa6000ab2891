use Rattle.std.proofs.Common.{◌≡◌, ◌++◌, ◌∷◌, drop, map}
use Rattle.comm_system.specs.PieceViews.{direction_seen, sides_seen}
use Rattle.comm_system.proofs.pieces.push_with.Given as goal

abbrev pub invariant-loop-one : goal.invariant-loop-one
invariant-loop-one l =
    map sides_seen l.more.items ++ map (λ ds. direction_seen l.side ∷ ds) (map sides_seen (drop l.one-index l.all))
    ≡ map sides_seen l.initial.more.items ++ map (λ ds. direction_seen l.side ∷ ds) (map sides_seen l.all)
