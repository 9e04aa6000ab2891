-- The cell of an access as a whole number is its cell, where its subscripts are in range.
use Rattle.std.proofs.Common.{◌≡◌, ℕ, zero, suc, ◌+◌, ◌-◌, ◌*◌, ◌<◌, ◌≤◌, ℤ, pos, ◌+ℤ◌, ◌-ℤ◌, ◌*ℤ◌, true, false, nat_lt, Some, None, ⊎_elim, if◌then◌else◌, List, [], ◌∷◌, map, length, take, w64, refl, ap, sym, ◌∙◌, arith}
use Rattle.std.specs.List.{list_all}
use Rattle.std.proofs.lemmas.Bool.{and_parts, cases_Bool, ltb-false}
use Rattle.std.specs.Option.{option_or}
use Rattle.std.proofs.lemmas.Int.{ints, int_wrap_fits, fits_signed_from_abs}
use Rattle.std.proofs.lemmas.List.{length-map}
use Rattle.std.proofs.Math.IntN.{pos-*ℤ-pos}
use Rattle.std.proofs.Math.Nat.{mul-le-mul_left}
use Rattle.nest_tree.specs.Form.{Form, form_value, is_form}
use Rattle.nest_tree.specs.Layout.{are_inside, bounds_at, bounds_of, cell_count, cells_in, count_of, element_count, element_place, extent, is_inside}
use Rattle.nest_tree.specs.Limits.{IsWithinLimits, capped, most_cells, too_many_cells, too_much_work, too_wide}
use Rattle.nest_tree.specs.declared.limits.Limit.{Limit}
use Rattle.nest_tree.specs.declared.limits.Limit.TheVariants.{TooManyCells}
use Rattle.nest_tree.specs.Tree.{Declaration, Tree, param_values}
use Rattle.nest_tree.specs.Values.{wrapped}
use Rattle.nest_tree.specs.WellFormed.{IsWellFormed, is_good_declaration, is_good_dimension, is_number_of, loops_of}
use Rattle.nest_tree.specs.declared.tree.Access.{Access}
use Rattle.nest_tree.proofs.Cells.{well_formed_parts}
use Rattle.nest_tree.proofs.Places.{good_dimension, good_declaration, count_of-some, extent-is, inside-ends}
use Rattle.nest_tree.proofs.FirstLimits.{neither}
use Rattle.nest_model.specs.Accesses.{access_cell, subscript_values}
use Rattle.nest_model.specs.Ranges.{is_access_inside}
use Rattle.nest_walk.specs.Paths.{Round, by_number}
use Rattle.nest_walk.specs.Places.{cell_among, place_among}
use Rattle.nest_walk.proofs.FormValues.{form_same}

-- dimension by dimension
place_exact : (count : ℕ) (rounds : List Round) (params : List ℤ) (bounds : List (ℤ × ℤ)) (subscripts : List Form) → list_all (λ (r : Round). is_number_of count r.number) rounds ≡ true →
    list_all is_good_dimension bounds ≡ true → list_all is_form subscripts ≡ true → are_inside bounds (map (λ f. form_value f (by_number count rounds) params) subscripts) ≡ true →
    pos (element_place bounds (map (λ f. form_value f (by_number count rounds) params) subscripts)) ≡ place_among bounds subscripts rounds params
place_exact count rounds params [] subscripts numbers good forms inside = refl
place_exact count rounds params (b ∷ bounds) [] numbers good forms inside = refl
place_exact count rounds params (b ∷ bounds) (f ∷ subscripts) numbers good forms inside =
    let value = form_value f (by_number count rounds) params in
    let values = map (λ g. form_value g (by_number count rounds) params) subscripts in
    let goods = and_parts (is_good_dimension b) (list_all is_good_dimension bounds) good in
    let all = and_parts (is_form f) (list_all is_form subscripts) forms in
    let ends = and_parts (is_inside b value) (are_inside bounds values) inside in
    let low = (inside-ends b value ends.0).0 in
    let offset : pos (count_of (value -ℤ b.0)) ≡ value -ℤ b.0 = count_of-some (value -ℤ b.0) (omega (arith, ints, low)) in
    let size = extent-is b (good_dimension b goods.0) in
    let rest = place_exact count rounds params bounds subscripts numbers goods.1 all.1 ends.1 in
    let same = form_same count rounds f params numbers all.0 in
    let product : pos (extent b * element_place bounds values) ≡ (b.1 -ℤ b.0 +ℤ pos 1) *ℤ place_among bounds subscripts rounds params =
    sym (pos-*ℤ-pos (extent b) (element_place bounds values)) ∙ ap (λ z. z *ℤ pos (element_place bounds values)) size ∙ ap (λ z. (b.1 -ℤ b.0 +ℤ pos 1) *ℤ z) rest in
    omega (arith, ints, offset, same, product)

-- an element lies below the count of its array
pub place_below : (bounds : List (ℤ × ℤ)) (values : List ℤ) → list_all is_good_dimension bounds ≡ true → are_inside bounds values ≡ true → length values ≡ length bounds → element_place bounds values < element_count bounds
place_below [] values good inside as_many = omega arith
place_below (b ∷ bounds) [] good inside as_many = absurd (omega (arith, as_many))
place_below (b ∷ bounds) (v ∷ values) good inside as_many =
    let goods = and_parts (is_good_dimension b) (list_all is_good_dimension bounds) good in
    let ends = and_parts (is_inside b v) (are_inside bounds values) inside in
    let within = inside-ends b v ends.0 in
    let offset : pos (count_of (v -ℤ b.0)) ≡ v -ℤ b.0 = count_of-some (v -ℤ b.0) (omega (arith, ints, within.0)) in
    let size = extent-is b (good_dimension b goods.0) in
    let first : count_of (v -ℤ b.0) < extent b = omega (arith, ints, offset, size, within.1) in
    let rest : suc (element_place bounds values) ≤ element_count bounds = place_below bounds values goods.1 ends.1 (omega (arith, as_many)) in
    let whole = mul-le-mul_left (extent b) rest in
    omega (arith, first, whole)

-- the bounds of a variable are good
good_bounds : (vs : List Declaration) (n : ℕ) → list_all is_good_declaration vs ≡ true → list_all is_good_dimension (bounds_at vs n) ≡ true
good_bounds [] n good = refl
good_bounds (v ∷ vs) zero good = (good_declaration v (and_parts (is_good_declaration v) (list_all is_good_declaration vs) good).0).0
good_bounds (v ∷ vs) (suc n) good = good_bounds vs n (and_parts (is_good_declaration v) (list_all is_good_declaration vs) good).1

pub bounds-good : (tree : Tree) (variable : ℕ) → IsWellFormed tree → list_all is_good_dimension (bounds_of tree variable) ≡ true
bounds-good tree variable formed = good_bounds tree.variables (variable - 1) (well_formed_parts tree formed).variables

-- and its cells are the program's
pub cells_below : (vs : List Declaration) (n : ℕ) → n < length vs → cells_in (take n vs) + element_count (bounds_at vs n) ≤ cells_in vs
cells_below [] n h = absurd (omega arith)
cells_below (v ∷ vs) zero h = omega arith
cells_below (v ∷ vs) (suc n) h = let rest = cells_below vs n (omega arith) in omega (arith, rest)

some_none : {x : Limit} → Some x ≡ None → ⊥
some_none h = cc

not_past : (n : ℕ) → nat_lt most_cells n ≡ false → n ≤ 1048576
not_past n h = ltb-false most_cells n h

pub few_cells : (tree : Tree) → IsWithinLimits tree → cell_count tree ≤ 1048576
few_cells tree limits =
    let parts = neither (too_wide tree) (option_or (too_much_work tree) (too_many_cells tree)) limits in
    let rest = neither (too_much_work tree) (too_many_cells tree) parts.1 in
    not_past (cell_count tree) (⊎_elim (λ h. absurd (some_none (ap (λ b. if b then Some (TooManyCells (capped (cell_count tree))) else None) (sym h) ∙ rest.1))) (λ h. h) (cases_Bool (nat_lt most_cells (cell_count tree))))

-- what is known of an access in range
pub record Exact (tree : Tree) (a : Access) (rounds : List Round) : Type 0 where
  pub cell : pos (access_cell tree (by_number (loops_of tree.items) rounds) a) ≡ cell_among tree a rounds
  pub within : access_cell tree (by_number (loops_of tree.items) rounds) a < cell_count tree
  pub small : access_cell tree (by_number (loops_of tree.items) rounds) a < 1048576

pub exact_cell : (tree : Tree) (a : Access) (rounds : List Round) → IsWellFormed tree → IsWithinLimits tree → 1 ≤ a.variable → a.variable ≤ length tree.variables →
    length a.subscripts ≡ length (bounds_of tree a.variable) → list_all is_form a.subscripts ≡ true → list_all (λ (r : Round). is_number_of (loops_of tree.items) r.number) rounds ≡ true →
    is_access_inside tree (by_number (loops_of tree.items) rounds) a ≡ true → Exact tree a rounds
exact_cell tree a rounds formed limits low high as_many forms numbers inside =
    let count = loops_of tree.items in
    let params = param_values tree in
    let bounds = bounds_of tree a.variable in
    let values = subscript_values tree (by_number count rounds) a.subscripts in
    let good = bounds-good tree a.variable formed in
    let place = place_exact count rounds params bounds a.subscripts numbers good forms inside in
    let below = place_below bounds values good inside (length-map a.subscripts (λ f. form_value f (by_number count rounds) params) ∙ as_many) in
    let own = cells_below tree.variables (a.variable - 1) (omega (arith, low, high)) in
    record { cell = omega (arith, ints, place); within = omega (arith, below, own); small = omega (arith, below, own, few_cells tree limits) }

-- a small cell is itself in 64 bits
pub cell_in_64_bits : (n : ℕ) → n < 1048576 → count_of (wrapped (pos n)) ≡ n
cell_in_64_bits n h = ap count_of (int_wrap_fits w64 (pos n) (fits_signed_from_abs w64 (pos n) (omega arith)))
