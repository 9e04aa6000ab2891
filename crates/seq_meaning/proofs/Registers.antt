-- What loads give, in the first registers.
use Rattle.std.proofs.Common.{◌≡◌, ℕ, ◌+◌, ◌<◌, nat_lt, ℤ, List, [], ◌∷◌, ◌++◌, length, map, take, get_or, set, refl, ap, ap₂, sym, ◌∙◌}
use Rattle.std.specs.List.{AllZip, list_all}
use Rattle.std.proofs.lemmas.List.{map_more, take_more_set}
use Rattle.std.proofs.lemmas.List.Folds.{list_all-map}
use Rattle.nest_model.specs.Memory.{cell_value}
use Rattle.nest_walk.specs.Paths.{Round, by_depth}
use Rattle.nest_walk.specs.Strips.{at_value}
use Rattle.nest_walk.specs.declared.table.LoadCells.{LoadCells}
use Rattle.flat_code.specs.Lines.{IsLoadLine, cell_on, first_of_load}
use Rattle.flat_code.specs.declared.lines.Line.{Line}
use Rattle.seq_meaning.specs.Loads.{is_first_within}

-- one more
pub loaded_more : {A : Type 0} (value : A → ℤ) (xs : List A) (registers : List ℤ) (k : ℕ) (x : A) (v : ℤ) → k < length xs → k < length registers → x ≡ get_or xs k x → v ≡ value x →
    take k registers ≡ map value (take k xs) → take (k + 1) (set registers k v) ≡ map value (take (k + 1) xs)
loaded_more value xs registers k x v lt room at is before =
    take_more_set registers k v room ∙ ap (λ rs. rs ++ v ∷ []) before ∙ ap (λ w. map value (take k xs) ++ w ∷ []) (is ∙ ap value at) ∙ sym (map_more value xs k x lt)

-- where their loop has this value, lines give the first cells of the loads whose lines they are
pub line_cells : (rounds : List Round) (v : ℤ) (loads : List LoadCells) (lines : List Line) → AllZip (λ l m. IsLoadLine l rounds m) loads lines → map (λ m. cell_on m v) lines ≡ map (first_of_load (by_depth (at_value rounds v))) loads
line_cells rounds v [] [] laid = refl
line_cells rounds v [] (m ∷ lines) laid = absurd laid
line_cells rounds v (l ∷ loads) [] laid = absurd laid
line_cells rounds v (l ∷ loads) (m ∷ lines) laid = ap₂ (λ (c : ℕ) (cs : List ℕ). c ∷ cs) (sym (laid.0 v)) (line_cells rounds v loads lines laid.1)

-- what they give in a memory, and that they are inside it
line_values : (memory : List ℤ) (v : ℤ) (lines : List Line) → map (λ m. cell_value memory (cell_on m v)) lines ≡ map (cell_value memory) (map (λ m. cell_on m v) lines)
line_values memory v [] = refl
line_values memory v (m ∷ lines) = ap (λ zs. cell_value memory (cell_on m v) ∷ zs) (line_values memory v lines)

load_values : (memory values : List ℤ) (loads : List LoadCells) → map (λ l. cell_value memory (first_of_load values l)) loads ≡ map (cell_value memory) (map (first_of_load values) loads)
load_values memory values [] = refl
load_values memory values (l ∷ loads) = ap (λ zs. cell_value memory (first_of_load values l) ∷ zs) (load_values memory values loads)

pub lines_load : (rounds : List Round) (v : ℤ) (loads : List LoadCells) (lines : List Line) (memory : List ℤ) → AllZip (λ l m. IsLoadLine l rounds m) loads lines →
    map (λ m. cell_value memory (cell_on m v)) lines ≡ map (λ l. cell_value memory (first_of_load (by_depth (at_value rounds v)) l)) loads
lines_load rounds v loads lines memory laid =
    line_values memory v lines ∙ ap (map (cell_value memory)) (line_cells rounds v loads lines laid) ∙ sym (load_values memory (by_depth (at_value rounds v)) loads)

pub lines_within : (rounds : List Round) (v : ℤ) (loads : List LoadCells) (lines : List Line) (cells : ℕ) → AllZip (λ l m. IsLoadLine l rounds m) loads lines →
    list_all (λ m. nat_lt (cell_on m v) cells) lines ≡ list_all (is_first_within cells (by_depth (at_value rounds v))) loads
lines_within rounds v loads lines cells laid =
    sym (list_all-map (λ c. nat_lt c cells) (λ m. cell_on m v) lines) ∙ ap (list_all (λ c. nat_lt c cells)) (line_cells rounds v loads lines laid)
    ∙ list_all-map (λ c. nat_lt c cells) (first_of_load (by_depth (at_value rounds v))) loads
