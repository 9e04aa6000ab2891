-- Loops that end.
use Rattle.std.proofs.Common.{◌≡◌, List, [], ◌∷◌, ◌++◌, map, refl, ap, ◌∙◌}
use Rattle.std.proofs.lemmas.List.{map_push}
use Rattle.nest_tree.specs.Tree.{do_loop, next}
use Rattle.nest_tree.specs.View.{statement_of, statements_from, head_of}
use Rattle.nest_tree.specs.declared.tree.Item.{Item, Loop}
use Rattle.nest_tree.specs.declared.tree.Nest.{Nest}
use Rattle.nest_tree.proofs.Rows.{statement_of-Loop}
use Rattle.f77_scene.specs.Trees.{in_a_row}

pub in_a_row-list : (items : List Item) → statements_from items ≡ in_a_row (map statement_of items)
in_a_row-list [] = refl
in_a_row-list (s ∷ items) = ap (next (statement_of s)) (in_a_row-list items)

-- a loop behind what stands in front of it
pub loop_behind : (front : List Item) (nest : Nest) → map statement_of (front ++ Loop nest ∷ []) ≡ map statement_of front ++ do_loop (head_of nest) (in_a_row (map statement_of nest.items.items)) ∷ []
loop_behind front nest =
    map_push statement_of front (Loop nest) ∙ ap (λ s. map statement_of front ++ s ∷ []) (statement_of-Loop nest ∙ ap (do_loop (head_of nest)) (in_a_row-list nest.items.items))
