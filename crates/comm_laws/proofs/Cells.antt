-- Which access of an instance touches a cell, and that one cell is one element of one variable.
use Rattle.std.proofs.Common.{◌≡◌, ℕ, zero, suc, ◌+◌, ◌*◌, ◌-◌, ◌/◌, ◌%◌, ◌<◌, ◌≤◌, ℤ, pos, ◌+ℤ◌, ◌-ℤ◌, ◌≤ℤ◌, int_le, true, Some, None, List, [], ◌∷◌, ◌++◌, length, map, refl, ap, sym, ◌∙◌, subst, inl, inr, arith}
use Rattle.std.specs.List.{AllByRecursion, Contains, flat_map}
use Rattle.std.proofs.Math.Nat.{mul-le-mul_left}
use Rattle.std.proofs.lemmas.Bool.{and_parts, cases_eq, cases_lt}
use Rattle.std.proofs.lemmas.Int.{ints}
use Rattle.std.proofs.lemmas.Grind.{flat_map-append}
use Rattle.std.proofs.lemmas.List.{append-nil, length-map}
use Rattle.std.proofs.lemmas.List.Elements.{Contains-append_cases}
use Rattle.nest_tree.specs.declared.tree.Access.{Access}
use Rattle.nest_tree.specs.Form.{form_value}
use Rattle.nest_tree.specs.Layout.{are_inside, bounds_of, count_of, element_count, element_place, extent, first_cell, is_inside}
use Rattle.nest_tree.specs.Loads.{loads_in}
use Rattle.nest_tree.specs.Tree.{Printed, value, whole, text, Work, assign, print, Tree, param_values}
use Rattle.nest_tree.proofs.Places.{count_of-some, same_variable}
use Rattle.nest_walk.specs.Places.{IsThere}
use Rattle.nest_walk.specs.Tables.{Loaded, element, array, loaded_in_item, loaded_in_work, stores_in}
use Rattle.nest_model.specs.Accesses.{access_cell, item_loads, subscript_values, whole_cells, work_loads, work_store}
use Rattle.nest_model.specs.Ranges.{is_access_inside}
use Rattle.comm_system.specs.Meetings.{AreFree, subscripts_at}
use Rattle.comm_system.specs.PairRows.{free_bounds}
use Rattle.conflict_rules.specs.References.{variable_of}
use Rattle.comm_system.proofs.Lists.{contains_cases, contains_here, contains_later, contains_nothing, range_contains}

-- ---- an element's place tells its subscripts

place_in : (low high d : ℤ) → low ≤ℤ d → d ≤ℤ high → count_of (d -ℤ low) < extent (low, high)
place_in low high d a b =
    let here = count_of-some (d -ℤ low) (omega (arith, ints, a)) in
    let all = count_of-some (high -ℤ low +ℤ pos 1) (omega (arith, ints, a, b)) in
    omega (arith, ints, here, all, b)

place_below : (bounds : List (ℤ × ℤ)) (ds : List ℤ) → AreFree bounds ds → element_place bounds ds < element_count bounds
place_below [] [] h = omega arith
place_below [] (d ∷ ds) h = absurd h
place_below (b ∷ bounds) [] h = absurd h
place_below (b ∷ bounds) (d ∷ ds) h =
    let here = place_in b.0 b.1 d h.0 h.1 in
    let later : extent b * suc (element_place bounds ds) ≤ extent b * element_count bounds = mul-le-mul_left (extent b) (place_below bounds ds h.2) in
    omega (arith, here, later)

digits : (m a c p r : ℕ) → a < m → c < m → a + m * p ≡ c + m * r → (a ≡ c) × (p ≡ r)
digits m a c p r lt lt' e = elim (cases_eq p r) [
  | inl same ↦ let both : m * p ≡ m * r = ap (λ n. m * n) same in (omega (arith, e, both), same)
  | inr ne ↦ absurd (elim (cases_lt p r) [
    | inl less ↦ let more : m * suc p ≤ m * r = mul-le-mul_left m less in omega (arith, more, e, lt, lt')
    | inr past ↦ over past ne
  ])
]
  where
    over : r ≤ p → (p ≡ r → ⊥) → ⊥
    over past ne =
        let less : suc r ≤ p = omega (arith, past, ne) in
        let more : m * suc r ≤ m * p = mul-le-mul_left m less in
        omega (arith, more, e, lt, lt')

same_place : (bounds : List (ℤ × ℤ)) (ds es : List ℤ) → AreFree bounds ds → AreFree bounds es → element_place bounds ds ≡ element_place bounds es → ds ≡ es
same_place [] [] [] h k e = refl
same_place [] [] (x ∷ es) h k e = absurd k
same_place [] (d ∷ ds) es h k e = absurd h
same_place (b ∷ bounds) [] es h k e = absurd h
same_place (b ∷ bounds) (d ∷ ds) [] h k e = absurd k
same_place (b ∷ bounds) (d ∷ ds) (x ∷ es) h k e =
    let split = digits (extent b) (count_of (d -ℤ b.0)) (count_of (x -ℤ b.0)) (element_place bounds ds) (element_place bounds es) (place_in b.0 b.1 d h.0 h.1) (place_in b.0 b.1 x k.0 k.1) e in
    let one = count_of-some (d -ℤ b.0) (omega (arith, ints, h.0)) in
    let two = count_of-some (x -ℤ b.0) (omega (arith, ints, k.0)) in
    let same : d ≡ x = omega (arith, ints, one, two, split.0) in
    ap (λ y. y ∷ ds) same ∙ ap (λ ys. x ∷ ys) (same_place bounds ds es h.2 k.2 split.1)

-- a cell is that of this element of this variable
pub record IsElement (tree : Tree) (variable : ℕ) (ds : List ℤ) (cell : ℕ) : Type 0 where
  pub low : 1 ≤ variable
  pub high : variable ≤ length tree.variables
  pub inside : AreFree (bounds_of tree variable) ds
  pub is : cell ≡ first_cell tree variable + element_place (bounds_of tree variable) ds

pub same_element_of : (tree : Tree) (v w : ℕ) (ds es : List ℤ) (cell : ℕ) → IsElement tree v ds cell → IsElement tree w es cell → (v ≡ w) × (ds ≡ es)
same_element_of tree v w ds es cell h k =
    let place = same_variable tree.variables (v - 1) (w - 1) (element_place (bounds_of tree v) ds) (element_place (bounds_of tree w) es) (omega (arith, h.low, h.high)) (omega (arith, k.low, k.high)) (place_below (bounds_of tree v) ds h.inside) (place_below (bounds_of tree w) es k.inside) (sym h.is ∙ k.is) in
    let same : v ≡ w = omega (arith, place, h.low, k.low) in
    let back : w ≡ v = sym same in
    let inside = subst (λ n. AreFree (bounds_of tree n) es) back k.inside in
    let is : cell ≡ first_cell tree v + element_place (bounds_of tree v) es = subst (λ n. cell ≡ first_cell tree n + element_place (bounds_of tree n) es) back k.is in
    (same, same_place (bounds_of tree v) ds es h.inside inside (omega (arith, h.is, is)))

-- ---- the elements of an array that is printed whole

abbrev subscripts_for : List (ℤ × ℤ) → ℕ → List ℤ
subscripts_for [] k = []
subscripts_for (b ∷ bounds) k = (b.0 +ℤ pos (k % extent b)) ∷ subscripts_for bounds (k / extent b)

positive : (bounds : List (ℤ × ℤ)) (b : ℤ × ℤ) (k : ℕ) → k < extent b * element_count bounds → 0 < extent b
positive bounds b k lt = by (extent b) lt
  where
    by : (m : ℕ) → k < m * element_count bounds → 0 < m
    by zero h = absurd (omega (arith, h))
    by (suc m) h = omega arith

subscripts-there : (bounds : List (ℤ × ℤ)) (k : ℕ) → k < element_count bounds → AreFree bounds (subscripts_for bounds k) × (element_place bounds (subscripts_for bounds k) ≡ k)
subscripts-there [] k lt = (tt, omega (arith, lt))
subscripts-there (b ∷ bounds) k lt =
    let m = extent b in
    let some = positive bounds b k lt in
    let rem : k % m < m = omega (arith, some) in
    let whole_is : m * (k / m) + k % m ≡ k = omega (arith, some) in
    let less = quotient_below m (element_count bounds) (k / m) k (omega (arith, whole_is)) lt in
    let later = subscripts-there bounds (k / m) less in
    let width = extent_from b some in
    let high : (b.0 +ℤ pos (k % m)) ≤ℤ b.1 = omega (arith, ints, width, rem) in
    let back : count_of (b.0 +ℤ pos (k % m) -ℤ b.0) ≡ k % m = counted b.0 (k % m) in
    let place : m * element_place bounds (subscripts_for bounds (k / m)) ≡ m * (k / m) = ap (λ n. m * n) later.1 in
    ((omega (arith, ints), high, later.0), omega (arith, back, place, whole_is))
  where
    quotient_below : (m n q k : ℕ) → m * q ≤ k → k < m * n → q < n
    quotient_below m n q k le lt = elim (cases_lt q n) [
      | inl less ↦ less
      | inr past ↦ let more : m * n ≤ m * q = mul-le-mul_left m past in absurd (omega (arith, more, le, lt))
    ]

    extent_from : (c : ℤ × ℤ) → 0 < extent c → pos (extent c) ≡ c.1 -ℤ c.0 +ℤ pos 1
    extent_from c some = by (c.1 -ℤ c.0 +ℤ pos 1) some
      where
        by : (z : ℤ) → 0 < count_of z → pos (count_of z) ≡ z
        by z h = count_of-some z (low z h)
          where
            low : (z : ℤ) → 0 < count_of z → pos 0 ≤ℤ z
            low z h = grind (arith, ints, h)

    counted : (low : ℤ) (n : ℕ) → count_of (low +ℤ pos n -ℤ low) ≡ n
    counted low n = let is : low +ℤ pos n -ℤ low ≡ pos n = omega (arith, ints) in ap count_of is

-- ---- the access that touches a cell

-- what is loaded or stored touches a cell, at these free subscripts
pub record Touches (tree : Tree) (loops : List ℤ) (cell : ℕ) (what : Loaded) : Type 0 where
  pub free : List ℤ
  pub within : AreFree (free_bounds tree what) free
  pub is : IsElement tree (variable_of what) (subscripts_at tree what (record { loops = loops; trips = []; free = free })) cell

pub record SomeTouches (tree : Tree) (loops : List ℤ) (cell : ℕ) (whats : List Loaded) : Type 0 where
  pub what : Loaded
  pub among : Contains whats what
  pub touches : Touches tree loops cell what

-- an access is good, and in range where the loops have these values
pub record IsSound (tree : Tree) (loops : List ℤ) (a : Access) : Type 0 where
  pub there : IsThere tree a
  pub inside : is_access_inside tree loops a ≡ true

free_values : (bounds : List (ℤ × ℤ)) (ds : List ℤ) → length ds ≡ length bounds → are_inside bounds ds ≡ true → AreFree bounds ds
free_values [] [] same h = tt
free_values [] (d ∷ ds) same h = absurd (omega (arith, same))
free_values (b ∷ bounds) [] same h = absurd (omega (arith, same))
free_values (b ∷ bounds) (d ∷ ds) same h =
    let parts = and_parts (is_inside b d) (are_inside bounds ds) h in
    let ends = and_parts (int_le b.0 d) (int_le d b.1) parts.0 in
    (at_most b.0 d ends.0, at_most d b.1 ends.1, free_values bounds ds (omega (arith, same)) parts.1)
  where
    at_most : (x y : ℤ) → int_le x y ≡ true → x ≤ℤ y
    at_most x y e = grind (arith, ints, e)

pub element_touches : (tree : Tree) (loops : List ℤ) (a : Access) → IsSound tree loops a → Touches tree loops (access_cell tree loops a) (element a)
element_touches tree loops a sound = record {
  free = [];
  within = tt;
  is = record {
    low = sound.there.low;
    high = sound.there.high;
    inside = free_values (bounds_of tree a.variable) (subscript_values tree loops a.subscripts) (length-map a.subscripts (λ f. form_value f loops (param_values tree)) ∙ sound.there.as_many) sound.inside;
    is = refl;
  };
}

-- ---- lists

-- the cells of what is loaded
abbrev cells_at : Tree → List ℤ → Loaded → List ℕ
cells_at tree loops (element a) = access_cell tree loops a ∷ []
cells_at tree loops (array variable) = whole_cells tree variable

module _ (tree : Tree) (loops : List ℤ) where
  element_cells : (xs : List Access) → map (access_cell tree loops) xs ≡ flat_map (cells_at tree loops) (map element xs)
  element_cells [] = refl
  element_cells (x ∷ xs) = ap (λ cs. access_cell tree loops x ∷ cs) (element_cells xs)

  item_cells : (p : Printed) → item_loads tree loops p ≡ flat_map (cells_at tree loops) (loaded_in_item p)
  item_cells (value e) = element_cells (loads_in e)
  item_cells (whole variable) = sym (append-nil (whole_cells tree variable))
  item_cells (text characters) = refl

  items_cells : (ps : List Printed) → flat_map (item_loads tree loops) ps ≡ flat_map (cells_at tree loops) (flat_map loaded_in_item ps)
  items_cells [] = refl
  items_cells (p ∷ ps) =
      ap (λ cs. cs ++ flat_map (item_loads tree loops) ps) (item_cells p) ∙ ap (λ cs. flat_map (cells_at tree loops) (loaded_in_item p) ++ cs) (items_cells ps)
      ∙ sym (flat_map-append (cells_at tree loops) (loaded_in_item p) (flat_map loaded_in_item ps))

  work_cells : (w : Work) → work_loads tree loops w ≡ flat_map (cells_at tree loops) (loaded_in_work w)
  work_cells (assign a) = element_cells (loads_in a.value)
  work_cells (print p) = items_cells p.items

-- what is loaded is good, and in range
abbrev pub IsSoundLoaded : Tree → List ℤ → Loaded → Type 0
IsSoundLoaded tree loops (element a) = IsSound tree loops a
IsSoundLoaded tree loops (array variable) = (1 ≤ variable) × (variable ≤ length tree.variables)

touched : (tree : Tree) (loops : List ℤ) (cell : ℕ) (w : Loaded) → IsSoundLoaded tree loops w → Contains (cells_at tree loops w) cell → Touches tree loops cell w
touched tree loops cell (element a) sound c = elim (contains_cases (access_cell tree loops a) cell [] c) [
  | inl same ↦ subst (λ n. Touches tree loops n (element a)) same (element_touches tree loops a sound)
  | inr none ↦ absurd (contains_nothing cell none)
]
touched tree loops cell (array variable) sound c =
    let bounds = bounds_of tree variable in
    let from = range_contains (first_cell tree variable) (element_count bounds) cell c in
    let k = cell - first_cell tree variable in
    let there = subscripts-there bounds k (omega (arith, from.0, from.1)) in
    record {
      free = subscripts_for bounds k;
      within = there.0;
      is = record { low = sound.0; high = sound.1; inside = there.0; is = omega (arith, there.1, from.0) };
    }

touching : (tree : Tree) (loops : List ℤ) (cell : ℕ) (ws : List Loaded) → AllByRecursion (IsSoundLoaded tree loops) ws → Contains (flat_map (cells_at tree loops) ws) cell → SomeTouches tree loops cell ws
touching tree loops cell [] sound c = absurd (contains_nothing cell c)
touching tree loops cell (w ∷ ws) sound c = elim (Contains-append_cases (cells_at tree loops w) (flat_map (cells_at tree loops) ws) cell c) [
  | inl here ↦ record { what = w; among = contains_here w ws; touches = touched tree loops cell w sound.0 here }
  | inr later ↦ let h = touching tree loops cell ws sound.1 later in record { what = h.what; among = contains_later w h.what ws h.among; touches = h.touches }
]

-- a load of a piece of work touches each cell that it loads
pub load_touches : (tree : Tree) (loops : List ℤ) (cell : ℕ) (w : Work) → AllByRecursion (IsSoundLoaded tree loops) (loaded_in_work w) → Contains (work_loads tree loops w) cell → SomeTouches tree loops cell (loaded_in_work w)
load_touches tree loops cell w sound c = touching tree loops cell (loaded_in_work w) sound (subst (λ cs. Contains cs cell) (work_cells tree loops w) c)

-- and its store the one that it stores
pub record StoreTouches (tree : Tree) (loops : List ℤ) (cell : ℕ) (w : Work) : Type 0 where
  pub access : Access
  pub among : Contains (stores_in w) access
  pub touches : Touches tree loops cell (element access)

pub store_touches : (tree : Tree) (loops : List ℤ) (cell : ℕ) (w : Work) → AllByRecursion (IsSound tree loops) (stores_in w) → work_store tree loops w ≡ Some cell → StoreTouches tree loops cell w
store_touches tree loops cell (assign a) sound is =
    let same : access_cell tree loops a.target ≡ cell = cc in
    record { access = a.target; among = contains_here a.target []; touches = subst (λ n. Touches tree loops n (element a.target)) same (element_touches tree loops a.target sound.0) }
store_touches tree loops cell (print p) sound is = absurd (let no : None ≡ Some cell = is in cc)
