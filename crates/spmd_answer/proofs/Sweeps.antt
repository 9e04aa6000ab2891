-- How many values a sweep has, and the lines of the first of them.
use Rattle.std.proofs.Common.{◌≡◌, ◌≤ℤ◌, ◌<ℤ◌, ◌+ℤ◌, ◌-ℤ◌, ◌∙◌, ◌+◌, ◌++◌, ℕ, suc, ℤ, pos, true, IsTrue, int_le, int_lt, List, ap, ap₂, subst, arith}
use Rattle.std.proofs.lemmas.Bool.{and_parts}
use Rattle.std.proofs.lemmas.Int.{ints}
use Rattle.command_words.specs.Sweeps.{are_bounds}
use Rattle.spmd_answer.specs.Due.{value_line, value_lines}

ordered : (low high : ℤ) → int_le low high ≡ true → low ≤ℤ high
ordered low high h = grind (arith, ints, h)

near : (low high : ℤ) → int_lt (high -ℤ low) (pos 1000) ≡ true → (high -ℤ low) <ℤ pos 1000
near low high h = grind (arith, ints, h)

-- at least one value, and at most 1,000
pub bounds_are : (low high : ℤ) → IsTrue (are_bounds low high) → (low ≤ℤ high) × ((high -ℤ low) <ℤ pos 1000)
bounds_are low high h =
    let parts = and_parts (int_le low high) (int_lt (high -ℤ low) (pos 1000)) h in
    (ordered low high parts.0, near low high parts.1)

-- one line more
pub one_more : (text : ℤ → List ℕ) (low : ℤ) (n : ℕ) (new old line : List ℕ) (value : ℤ) → new ≡ old ++ line → line ≡ value_line text value → value ≡ low +ℤ pos n → old ≡ value_lines text low n → new ≡ value_lines text low (n + 1)
one_more text low n new old line value new_is line_is value_is old_is =
    let next : suc n ≡ n + 1 = omega arith in
    subst (λ (m : ℕ). new ≡ value_lines text low m) next (new_is ∙ ap₂ (λ t l. t ++ l) old_is (line_is ∙ ap (value_line text) value_is))
