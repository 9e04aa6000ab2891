use Rattle.std.proofs.Common.{◌≡◌, ◌||◌, not, drop}
use Rattle.std.specs.List.{list_any}
use Rattle.f77_scene.specs.Scene.{is_among}
use Rattle.f77_scene.specs.Tests.{begins_i_to_n}
use Rattle.f77_program.specs.Pieces.{names_view}
use Rattle.f77_program.proofs.statements.has_other_type.Given as goal

abbrev pub invariant-loop-name : goal.invariant-loop-name
invariant-loop-name l = list_any (λ n. not (begins_i_to_n n || is_among l.integers n)) (names_view (drop l.name-index l.names)) ≡ list_any (λ n. not (begins_i_to_n n || is_among l.integers n)) (names_view l.names)
