-- Cells one behind another.
use Rattle.std.proofs.Common.{◌≡◌, ℕ, zero, suc, ◌+◌, ◌≤◌, ℤ, pos, List, ◌∷◌, take, drop, length, map, get_or, refl, ap, ◌∙◌, arith}
use Rattle.std.specs.List.{range_with_len}
use Rattle.std.proofs.lemmas.List.{drop_more}
use Rattle.nest_model.specs.Memory.{cell_value}

pub values_of_range : (memory : List ℤ) (first count : ℕ) → first + count ≤ length memory → take count (drop first memory) ≡ map (cell_value memory) (range_with_len first count)
values_of_range memory first zero h = refl
values_of_range memory first (suc count) h =
    ap (take (suc count)) (drop_more memory first (pos 0) (omega arith)) ∙ ap (λ xs. get_or memory first (pos 0) ∷ xs) (values_of_range memory (first + 1) count (omega arith))
