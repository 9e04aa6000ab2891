-- The rows of one thing more: a bound, a subscript, a loop, an owner.
use Rattle.std.proofs.Common.{◌≡◌, ℕ, zero, suc, ◌+◌, ◌*◌, ◌-◌, ◌<◌, ◌≤◌, ℤ, pos, true, ◌&&◌, List, [], ◌∷◌, ◌++◌, append_assoc, length, map, drop, get_or, refl, ap, sym, ◌∙◌, arith}
use Rattle.std.specs.List.{list_all}
use Rattle.std.proofs.lemmas.Bool.{and_from, and_parts}
use Rattle.std.proofs.lemmas.List.{drop_more}
use Rattle.std.proofs.lemmas.List.Folds.{list_all-append}
use Rattle.nest_tree.specs.Form.{is_small, rises_above}
use Rattle.nest_tree.specs.Layout.{bounds_at}
use Rattle.nest_tree.specs.View.{declaration_of}
use Rattle.nest_tree.specs.declared.tree.Variable.{Variable}
use Rattle.nest_rows.specs.declared.constraint.Sign.TheVariants.{Minus, Plus}
use Rattle.nest_rows.specs.Signs.{with_sign}
use Rattle.nest_rows.proofs.SmallTerms.{are_small, loops-small}
use Rattle.sync_plan.specs.declared.plan.ConditionRow.{ConditionRow}
use Rattle.sync_plan.specs.Shape.{is_good_row}
use Rattle.nest_tree.specs.WellFormed.{is_number_of}
use Rattle.comm_system.specs.OwnerRows.{owner_has, owner_numbers, owner_unknowns, owners_have, owners_unknowns}
use Rattle.comm_system.specs.OwnerViews.{placed_seen}
use Rattle.comm_system.specs.PairRows.{Sum, apart, free_have, free_sums, no_more, same_element, same_loops}
use Rattle.comm_system.specs.RowViews.{bounds_have, free_at, is_small_sum, sum_seen}
use Rattle.comm_system.specs.declared.owner_rows.Placed.{Placed}
use Rattle.comm_system.specs.declared.rows.Sum.{Sum as Held}

-- one thing more of what is left, seen through a view
pub left_more : {A B : Type 0} (f : A → B) (xs : List A) (k : ℕ) (x : A) → k < length xs → x ≡ get_or xs k x → map f (drop k xs) ≡ f x ∷ map f (drop (k + 1) xs)
left_more f xs k x lt is = ap (map f) (drop_more xs k x lt) ∙ ap (λ y. f y ∷ map f (drop (k + 1) xs)) (sym is)

-- what stands before and what is left, after one thing more
pub list_more : {B : Type 0} (whole before after left rest : List B) (x : B) → before ++ left ≡ whole → left ≡ x ∷ rest → after ≡ before ++ x ∷ [] → after ++ rest ≡ whole
list_more whole before after left rest x h e a = ap (λ xs. xs ++ rest) a ∙ append_assoc before (x ∷ []) rest ∙ ap (λ xs. before ++ xs) (sym e) ∙ h

pub free_more : (first : ℕ) (bounds : List (ℤ × ℤ)) (k : ℕ) → k < length bounds → free_have (first + k) (drop k bounds) ≡ bounds_have (first + k) (get_or bounds k (pos 0, pos 0)) ++ free_have (first + (k + 1)) (drop (k + 1) bounds)
free_more first bounds k lt =
    let next : suc (first + k) ≡ first + (k + 1) = omega arith in
    ap (free_have (first + k)) (drop_more bounds k (pos 0, pos 0) lt) ∙ ap (λ n. bounds_have (first + k) (get_or bounds k (pos 0, pos 0)) ++ free_have n (drop (k + 1) bounds)) next

pub free_sums_more : (first : ℕ) (bounds : List (ℤ × ℤ)) (k : ℕ) → k < length bounds → free_sums (first + k) (drop k bounds) ≡ free_at (first + k) ∷ free_sums (first + (k + 1)) (drop (k + 1) bounds)
free_sums_more first bounds k lt =
    let next : suc (first + k) ≡ first + (k + 1) = omega arith in
    ap (free_sums (first + k)) (drop_more bounds k (pos 0, pos 0) lt) ∙ ap (λ n. free_at (first + k) ∷ free_sums n (drop (k + 1) bounds)) next

pub small_more : (sums new : List Held) (s : Held) → list_all is_small_sum sums ≡ true → is_small_sum s ≡ true → new ≡ sums ++ s ∷ [] → list_all is_small_sum new ≡ true
small_more sums new s h k e = ap (list_all is_small_sum) e ∙ list_all-append is_small_sum sums (s ∷ []) ∙ and_from (list_all is_small_sum sums) (is_small_sum s && true) h (and_from (is_small_sum s) true k refl)

pub same_more : (xs ys : List Held) (k : ℕ) (x y : Held) → k < length xs → x ≡ get_or xs k x → k < length ys → y ≡ get_or ys k y →
    same_element (map sum_seen (drop k xs)) (map sum_seen (drop k ys)) ≡ (no_more Plus (sum_seen x) (sum_seen y) ∷ no_more Minus (sum_seen x) (sum_seen y) ∷ []) ++ same_element (map sum_seen (drop (k + 1) xs)) (map sum_seen (drop (k + 1) ys))
same_more xs ys k x y lx ix ly iy =
    ap (λ (ss : List Sum). same_element ss (map sum_seen (drop k ys))) (left_more sum_seen xs k x lx ix)
    ∙ ap (λ (ss : List Sum). same_element (sum_seen x ∷ map sum_seen (drop (k + 1) xs)) ss) (left_more sum_seen ys k y ly iy)

pub same_loops_more : (m n count k : ℕ) → k < count →
    same_loops (m + 2 * k) (n + 2 * k) (count - k) ≡ (apart Plus (m + 2 * k) (n + 2 * k) (pos 0) ∷ apart Minus (m + 2 * k) (n + 2 * k) (pos 0) ∷ []) ++ same_loops (m + 2 * (k + 1)) (n + 2 * (k + 1)) (count - (k + 1))
same_loops_more m n count k lt =
    let one : count - k ≡ suc (count - (k + 1)) = omega arith in
    let i : m + 2 * k + 2 ≡ m + 2 * (k + 1) = omega arith in
    let j : n + 2 * k + 2 ≡ n + 2 * (k + 1) = omega arith in
    let two = apart Plus (m + 2 * k) (n + 2 * k) (pos 0) ∷ apart Minus (m + 2 * k) (n + 2 * k) (pos 0) ∷ [] in
    ap (same_loops (m + 2 * k) (n + 2 * k)) one ∙ ap (λ a. two ++ same_loops a (n + 2 * k + 2) (count - (k + 1))) i ∙ ap (λ b. two ++ same_loops (m + 2 * (k + 1)) b (count - (k + 1))) j

pub owners_more : (workers q : ℕ) (placed : List Placed) (k : ℕ) (p : Placed) → k < length placed → p ≡ get_or placed k p →
    owners_have workers q (map placed_seen (drop k placed)) ≡ owner_has workers q (placed_seen p) ++ owners_have workers (q + owner_unknowns p.anchor.now.dist) (map placed_seen (drop (k + 1) placed))
owners_more workers q placed k p lt is = ap (owners_have workers q) (left_more placed_seen placed k p lt is)

pub numbers_more : (q : ℕ) (placed : List Placed) (k : ℕ) (p : Placed) → k < length placed → p ≡ get_or placed k p →
    owner_numbers q (map placed_seen (drop k placed)) ≡ q ∷ owner_numbers (q + owner_unknowns p.anchor.now.dist) (map placed_seen (drop (k + 1) placed))
numbers_more q placed k p lt is = ap (owner_numbers q) (left_more placed_seen placed k p lt is)

pub unknowns_more : (placed : List Placed) (k : ℕ) (p : Placed) → k < length placed → p ≡ get_or placed k p →
    owners_unknowns (map placed_seen (drop k placed)) ≡ owner_unknowns p.anchor.now.dist + owners_unknowns (map placed_seen (drop (k + 1) placed))
unknowns_more placed k p lt is = ap owners_unknowns (left_more placed_seen placed k p lt is)

-- terms as they are
pub with_plus : (terms : List (ℕ × ℤ)) → with_sign Plus terms ≡ terms
with_plus [] = refl
with_plus (t ∷ terms) = ap (λ ts. t ∷ ts) (with_plus terms)

-- the coefficients of a good row are small
pub row_small : (constants : ℕ) (row : ConditionRow) → is_good_row constants row ≡ true → are_small row.coefs ≡ true
row_small constants row h =
    let last = and_parts _ (is_small row.bound) h in
    let two = and_parts _ (list_all (λ p. is_number_of constants p.0) row.coefs) last.0 in
    let rises = and_parts _ (rises_above 0 row.coefs) two.0 in
    loops-small (record { constant = pos 0; loops = row.coefs; params = [] }) (and_from (rises_above 0 row.coefs) true rises.1 refl)

pub bounds_there : (vs : List Variable) (k : ℕ) (v : Variable) → k < length vs → v ≡ get_or vs k v → bounds_at (map declaration_of vs) k ≡ v.bounds.items
bounds_there [] k v lt is = absurd (omega arith)
bounds_there (x ∷ vs) zero v lt is = ap (λ (y : Variable). y.bounds.items) (sym is)
bounds_there (x ∷ vs) (suc k) v lt is = bounds_there vs k v (omega (arith, lt)) is

pub bounds_none : (vs : List Variable) (k : ℕ) → length vs ≤ k → bounds_at (map declaration_of vs) k ≡ []
bounds_none [] k le = refl
bounds_none (x ∷ vs) zero le = absurd (omega arith)
bounds_none (x ∷ vs) (suc k) le = bounds_none vs k (omega (arith, le))
