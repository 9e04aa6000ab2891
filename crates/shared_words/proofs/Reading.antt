-- Words that are read one by one into values.
use Rattle.std.proofs.Common.{◌≡◌, ℕ, zero, suc, [], ◌∷◌, ◌+◌, ◌<◌, ◌≤◌, List, length, map, take, set, sym, ◌∙◌, ap, inl, inr, get_or-set_same, get_or-set_other, arith}
use Rattle.std.proofs.lemmas.List.{ext_get_or, length-map, length-take-le}
use Rattle.std.specs.Prelude.{ℤ, pos, slice_index}
use mathlib.Core.Option.{some, some-injective, some-ne-none}
use lib.ListN.{get_elem?}
use Rattle.std.proofs.lemmas.Bool.{cases_eq}
use Rattle.nest_model.specs.Memory.{cell_value}
use Rattle.shared_words.specs.Words.{word_value}
use Rattle.shared_words.proofs.WordSteps.{value_in}

-- one value more
pub read_more : (into : List ℤ) (words : List ℕ) (k : ℕ) (v : ℤ) → k < length into → v ≡ word_value (slice_index words k) → ((cell : ℕ) → cell < k → cell_value into cell ≡ word_value (slice_index words cell))
    → (cell : ℕ) → cell < k + 1 → cell_value (set into k v) cell ≡ word_value (slice_index words cell)
read_more into words k v inside is old cell lt = elim (cases_eq cell k) [
  | inl e ↦ ap (cell_value (set into k v)) e ∙ get_or-set_same into k v (pos 0) inside ∙ is ∙ ap (λ i. word_value (slice_index words i)) (sym e)
  | inr ne ↦ get_or-set_other into k cell v (pos 0) ne ∙ old cell (omega (arith, ne))
]

pub found_at : (words : List ℕ) (k w : ℕ) → get_elem? words k ≡ some w → w ≡ slice_index words k
found_at [] k w is = absurd (some-ne-none w (sym is))
found_at (x ∷ xs) zero w is = sym (some-injective x w is)
found_at (x ∷ xs) (suc k) w is = found_at xs k w is

-- all values
pub read_all : (into : List ℤ) (words : List ℕ) (n : ℕ) → length into ≡ n → n ≤ length words → ((cell : ℕ) → cell < n → cell_value into cell ≡ word_value (slice_index words cell)) → into ≡ map word_value (take n words)
read_all into words n count room each =
    ext_get_or (pos 0) into (map word_value (take n words)) (count ∙ sym (length-map (take n words) word_value ∙ length-take-le n words room))
    (λ cell lt. let below : cell < n = omega (arith, lt, count) in each cell below ∙ sym (value_in words n cell below))
