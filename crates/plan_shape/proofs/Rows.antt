-- What a good row of conditions names.
use Rattle.std.proofs.Common.{◌≡◌, ℕ, true, nat_le, nat_lt, ℤ, List, [], ◌∷◌, length, refl}
use Rattle.std.specs.List.{list_all}
use Rattle.std.proofs.lemmas.Bool.{and_from, and_parts}
use Rattle.nest_tree.specs.Form.{is_small, reach_within, rises_above}
use Rattle.nest_tree.specs.WellFormed.{is_number_of}
use Rattle.sync_plan.specs.declared.plan.ConditionRow.{ConditionRow}
use Rattle.sync_plan.specs.Shape.{is_good_row}

-- numbers of so many things are within so many
pub numbers_within : (count : ℕ) (pairs : List (ℕ × ℤ)) → list_all (λ (p : ℕ × ℤ). is_number_of count p.0) pairs ≡ true → reach_within count pairs ≡ true
numbers_within count [] h = refl
numbers_within count (p ∷ pairs) h =
    let parts = and_parts (is_number_of count p.0) (list_all (λ (q : ℕ × ℤ). is_number_of count q.0) pairs) h in
    and_from (nat_le p.0 count) (reach_within count pairs) (and_parts (nat_le 1 p.0) (nat_le p.0 count) parts.0).1 (numbers_within count pairs parts.1)

-- the parts of a good row of conditions
pub record RowParts (constants : ℕ) (row : ConditionRow) : Type 0 where
  pub rising : rises_above 0 row.coefs ≡ true
  pub given : reach_within constants row.coefs ≡ true

pub row_parts : (constants : ℕ) (row : ConditionRow) → is_good_row constants row ≡ true → RowParts constants row
row_parts constants row good =
    let a = and_parts _ (is_small row.bound) good in
    let b = and_parts _ (list_all (λ (p : ℕ × ℤ). is_number_of constants p.0) row.coefs) a.0 in
    let c = and_parts (nat_lt 0 (length row.coefs)) (rises_above 0 row.coefs) b.0 in
    record { rising = c.1; given = numbers_within constants row.coefs b.1 }
