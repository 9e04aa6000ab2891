use Rattle.std.proofs.Common.{◌≡◌, ◌++◌, map, take}
use Rattle.f77_program.proofs.names.Names.push_all.Given as goal

abbrev pub invariant-loop-name : goal.invariant-loop-name
invariant-loop-name l = l.self ≡ l.initial.self ++ map (λ n. n.now) (take l.name-index l.names)
