-- Stores laid over memory.
use Rattle.std.specs.Prelude.{ℕ, ◌≡◌, ◌==◌, ℤ, Bool, true, false, List, fold, get_or, length, map, slice_set, sum_by}
use Rattle.std.specs.List.{flat_map, list_any, range_with_len}
use Rattle.nest_model.specs.Memory.{cell_value}

-- memory with stores laid in, one behind another
abbrev pub laid_in : List (ℕ × ℤ) → List ℤ → List ℤ
laid_in stores memory = fold (λ cells s. slice_set cells s.0 s.1) memory stores

-- the cells of stretches, each a first cell with how many there are from it on
abbrev pub stretched : List (ℕ × ℕ) → List ℕ
stretched stretches = flat_map (λ s. range_with_len s.0 s.1) stretches

-- the stores to these cells, where values stand by cells
abbrev pub stores_to : List ℕ → List ℤ → List (ℕ × ℤ)
stores_to cells values = map (λ c. (c, cell_value values c)) cells

-- whether a cell is one of these
abbrev pub is_among : ℕ → List ℕ → Bool
is_among cell cells = list_any (λ c. c == cell) cells

-- marks without those of these cells
abbrev pub unmarked : List ℕ → List Bool → List Bool
unmarked cells marks = fold (λ ms c. slice_set ms c false) marks cells

abbrev pub is_marked : Bool → ℕ
is_marked false = 0
is_marked true = 1

-- these cells are those with a mark, each once
pub record AreMarked (cells : List ℕ) (marks : List Bool) : Type 0 where
  pub marked : (cell : ℕ) → is_among cell cells ≡ get_or marks cell false
  pub counted : length cells ≡ sum_by is_marked marks
