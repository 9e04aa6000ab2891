use Rattle.std.proofs.Common.{◌≡◌, map, drop}
use Rattle.f77_scene.specs.Scene.{with_names}
use Rattle.f77_program.proofs.names.Names.add_all.Given as goal

abbrev pub invariant-loop-name : goal.invariant-loop-name
invariant-loop-name l = with_names l.self (map (λ n. n.now) (drop l.name-index l.names)) ≡ with_names l.initial.self (map (λ n. n.now) l.names)
