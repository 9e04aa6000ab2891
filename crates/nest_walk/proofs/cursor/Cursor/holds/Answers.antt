use Rattle.std.proofs.Common.{ap, ◌∙◌, [], ◌∷◌, rules, w64, FitsSigned}
use Rattle.std.specs.List.{list_all}
use Rattle.std.proofs.lemmas.Bool.{and_parts}
use Rattle.std.proofs.lemmas.Int.{to_z-of_z}
use Rattle.nest_tree.specs.Form.{form_value}
use Rattle.nest_tree.specs.Guards.{compares}
use Rattle.nest_walk.specs.Paths.{by_number}
use Rattle.nest_walk.specs.RoundsOf.{rounds_of}
use Rattle.nest_walk.specs.Walkable.{is_small_at}
use Rattle.nest_walk.proofs.CursorMoves.{bound_is, walk_of}
use Rattle.nest_walk.proofs.cursor.Cursor.holds.Goals as goal

pub returns : goal.returns
returns c =
    let old = c.args.self.now in
    let g = c.args.guard.now in
    let loops = by_number (walk_of old).loops (rounds_of old.path) in
    let test = is_small_at (walk_of old).params loops in
    let both = and_parts (test g.left) (list_all test (g.right ∷ [])) c.requires.small in
    let second = and_parts (test g.right) (list_all test []) both.1 in
    let f1 : FitsSigned w64 c.value_at-left.result = search rules in
    let f2 : FitsSigned w64 c.value_at-right.result = search rules in
    let left = bound_is old g.left c.deref.result.now c.value_at-left.result c.deref.ensures.value c.value_at-left.ensures.form both.0 c.value_at-left.ensures.value in
    let right = bound_is old g.right c.deref-2.result.now c.value_at-right.result c.deref-2.ensures.value c.value_at-right.ensures.form second.0 c.value_at-right.ensures.value in
    let compared = simp to_z-of_z at c.holds.ensures in
    compared ∙ ap (λ x. compares g.op x c.value_at-right.result) left ∙ ap (λ y. compares g.op (form_value g.left loops (walk_of old).params) y) right
