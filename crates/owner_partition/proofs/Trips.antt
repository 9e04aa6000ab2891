-- The values of a loop's own trips from their numbers.
use Rattle.std.proofs.Common.{◌≡◌, ℕ, zero, suc, ◌+◌, ◌-◌, ◌*◌, ◌^◌, ◌<◌, ◌≤◌, ◌==◌, nat_lt, ℤ, pos, ◌+ℤ◌, ◌*ℤ◌, Bool, true, false, List, [], ◌∷◌, map, length, get_or, IsTrue, FitsSigned, w64, unsigned_abs, if◌then◌else◌, refl, ap, sym, subst, ◌∙◌, arith}
use Rattle.std.specs.Int.{w128}
use Rattle.std.specs.List.{All, filter, list_all, range_with_len}
use Rattle.std.proofs.lemmas.Bool.{le-ltb, leb-true, lt-ltb, ltb-true}
use Rattle.std.proofs.lemmas.Int.{fits_signed_from_abs, ints, unsigned_abs-mul}
use Rattle.std.proofs.lemmas.Nat.{mul-le}
use Rattle.std.proofs.lemmas.List.{get_or-map, get_or-set_same, length-map, length-set, set-set}
use Rattle.std.proofs.lemmas.List.Elements.{All-filter}
use Rattle.std.proofs.lemmas.List.Sums.{AllPass-from_list_all}
use Rattle.std.proofs.lemmas.List.FromFn.{get_or-range_with_len, length-range_with_len}
use Rattle.std.proofs.Math.IntN.{*ℤ_comm, zero-*ℤ}
use Rattle.list_lemmas.proofs.Integers.{add-mul, mul-add, mul_assoc_ℤ}
use Rattle.nest_tree.specs.Form.{Form, form_value, is_form, is_small}
use Rattle.nest_tree.specs.Layout.{count_of}
use Rattle.nest_tree.specs.Tree.{Head}
use Rattle.nest_model.specs.Instances.{trip_count, trips, with_loop}
use Rattle.nest_walk.specs.Progressions.{progression}
use Rattle.owner_partition.specs.OwnInstances.{coefficient_of, is_owned, own_values}
use Rattle.owner_partition.specs.Owners.{dealt}
use Rattle.owner_partition.specs.OwnTrips.{own_numbers, strided, trip_owner}
use Rattle.owner_partition.specs.declared.anchor.Anchor.{Anchor}
use Rattle.owner_partition.proofs.Dealt.{form_along}

filter_map-same : {X : Type 0} (q : X → Bool) (r : ℕ → Bool) (g : ℕ → X) → ((n : ℕ) → q (g n) ≡ r n) → (ns : List ℕ) → filter q (map g ns) ≡ map g (filter r ns)
filter_map-same q r g same [] = refl
filter_map-same q r g same (n ∷ ns) =
    let later = filter_map-same q r g same ns in
    ap (λ xs. if q (g n) then g n ∷ xs else xs) later ∙ ap (λ b. if b then g n ∷ map g (filter r ns) else map g (filter r ns)) (same n)
    ∙ (elim (r n) as (λ b. (if b then g n ∷ map g (filter r ns) else map g (filter r ns)) ≡ map g (if b then n ∷ filter r ns else filter r ns)) [ true ↦ refl | false ↦ refl ])

map_in_range : {X : Type 0} (f g : ℕ → X) (a n : ℕ) → ((k : ℕ) → k < n → f (a + k) ≡ g (a + k)) → map f (range_with_len a n) ≡ map g (range_with_len a n)
map_in_range f g a zero same = refl
map_in_range f g a (suc n) same =
    let first : f a ≡ g a = ap f (omega arith) ∙ same 0 (omega arith) ∙ ap g (omega arith) in
    let later : (k : ℕ) → k < n → f (a + 1 + k) ≡ g (a + 1 + k) = λ k lt. ap f (omega arith) ∙ same (suc k) (omega arith) ∙ ap g (omega arith) in
    ap (λ x. x ∷ map f (range_with_len (a + 1) n)) first ∙ ap (λ xs. g a ∷ xs) (map_in_range f g (a + 1) n later)

map_map : {X : Type 0} (f : ℕ → X) (g : ℕ → ℕ) (xs : List ℕ) → map f (map g xs) ≡ map (λ x. f (g x)) xs
map_map f g [] = refl
map_map f g (x ∷ xs) = ap (λ ys. f (g x) ∷ ys) (map_map f g xs)

-- the value of a strided trip
pub stride_value : (m1 m3 step : ℤ) (first stride k : ℕ) → step ≡ pos stride *ℤ m3 → m1 +ℤ (pos (first + k * stride) *ℤ m3) ≡ (m1 +ℤ (pos first *ℤ m3)) +ℤ (pos k *ℤ step)
stride_value m1 m3 step first stride k e =
    let sum : pos (first + k * stride) ≡ pos first +ℤ (pos k *ℤ pos stride) = refl in
    let parts = ap (λ z. z *ℤ m3) sum ∙ add-mul (pos first) (pos k *ℤ pos stride) m3 in
    let inner = mul_assoc_ℤ (pos k) (pos stride) m3 ∙ ap (λ z. pos k *ℤ z) (sym e) in
    omega (arith, ints, parts, inner)

strided_value : (m1 m3 step : ℤ) (first stride count k : ℕ) → (1 < count → step ≡ pos stride *ℤ m3) → k < count → m1 +ℤ (pos (first + k * stride) *ℤ m3) ≡ (m1 +ℤ (pos first *ℤ m3)) +ℤ (pos k *ℤ step)
strided_value m1 m3 step first stride count zero e lt =
    let at : first + 0 * stride ≡ first = omega arith in
    ap (λ n. m1 +ℤ (pos n *ℤ m3)) at ∙ omega (arith, ints, zero-*ℤ step)
strided_value m1 m3 step first stride count (suc k) e lt = stride_value m1 m3 step first stride (suc k) (e (omega arith))

-- the values of strided trips; where there is one, it has no next
pub strided_values : (m1 m3 step : ℤ) (first stride count : ℕ) → (1 < count → step ≡ pos stride *ℤ m3) →
    map (λ n. m1 +ℤ (pos n *ℤ m3)) (strided first stride count) ≡ progression (m1 +ℤ (pos first *ℤ m3)) step count
strided_values m1 m3 step first stride count e =
    let f : ℕ → ℤ = λ k. m1 +ℤ (pos (first + k * stride) *ℤ m3) in
    let g : ℕ → ℤ = λ k. (m1 +ℤ (pos first *ℤ m3)) +ℤ (pos k *ℤ step) in
    map_map (λ n. m1 +ℤ (pos n *ℤ m3)) (λ k. first + k * stride) (range_with_len 0 count)
    ∙ map_in_range f g 0 count (λ k lt. ap f (omega arith) ∙ strided_value m1 m3 step first stride count k e lt ∙ ap g (omega arith))

-- the form's value at a trip
pub trip_place : (base coefficient m1 m3 : ℤ) (n : ℕ) → base +ℤ coefficient *ℤ (m1 +ℤ (pos n *ℤ m3)) ≡ (base +ℤ coefficient *ℤ m1) +ℤ (pos n *ℤ (coefficient *ℤ m3))
trip_place base coefficient m1 m3 n =
    let spread = mul-add coefficient m1 (pos n *ℤ m3) in
    let turned = sym (mul_assoc_ℤ coefficient (pos n) m3) ∙ ap (λ z. z *ℤ m3) (*ℤ_comm coefficient (pos n)) ∙ mul_assoc_ℤ (pos n) coefficient m3 in
    omega (arith, ints, spread, turned)

-- the form's value along a loop, from where it is at 0
pub form_from : (f : Form) (n : ℕ) (loops params : List ℤ) (v : ℤ) → is_form f ≡ true → 0 < n → n - 1 < length loops →
    form_value f (with_loop loops n v) params ≡ form_value f (with_loop loops n (pos 0)) params +ℤ coefficient_of f.loops n *ℤ v
form_from f n loops params v form some within =
    let long : n - 1 < length (with_loop loops n (pos 0)) = omega (arith, within, length-set loops (n - 1) (pos 0)) in
    ap (λ ls. form_value f ls params) (sym (set-set loops (n - 1) (pos 0) v)) ∙ form_along f n (with_loop loops n (pos 0)) params v form some long (get_or-set_same loops (n - 1) (pos 0) (pos 0) within)

-- a loop's own trips by their numbers
own_by_number : (params : List ℤ) (a : Anchor) (workers p : ℕ) (head : Head) (loops : List ℤ) → is_form a.form ≡ true → 0 < head.number → head.number - 1 < length loops →
    let m1 = form_value head.m1 loops params in
    let coefficient = coefficient_of a.form.loops head.number in
    own_values params a workers p head loops
    ≡ map (λ n. m1 +ℤ (pos n *ℤ head.step))
    (own_numbers a.dist workers p (form_value a.form (with_loop loops head.number (pos 0)) params +ℤ coefficient *ℤ m1) (coefficient *ℤ head.step) (trip_count m1 (form_value head.m2 loops params) head.step))
own_by_number params a workers p head loops form some within =
    let m1 = form_value head.m1 loops params in
    let coefficient = coefficient_of a.form.loops head.number in
    let fixed = form_value a.form (with_loop loops head.number (pos 0)) params in
    let start = fixed +ℤ coefficient *ℤ m1 in
    let rise = coefficient *ℤ head.step in
    filter_map-same (λ v. is_owned params a workers p (with_loop loops head.number v)) (λ n. trip_owner a.dist workers start rise n == p) (λ n. m1 +ℤ (pos n *ℤ head.step))
    (λ n. ap (λ w. count_of (dealt a.dist workers w) == p) (form_from a.form head.number loops params (m1 +ℤ (pos n *ℤ head.step)) form some within ∙ trip_place fixed coefficient m1 head.step n))
    (range_with_len 0 (trip_count m1 (form_value head.m2 loops params) head.step))

-- the value of the first of some trips
pub stride_start : (m1 product : ℤ) → IsTrue (is_small m1) → unsigned_abs product < 2 ^ 63 - 2 ^ 32 → FitsSigned w64 (m1 +ℤ product)
stride_start m1 product small near =
    let low = leb-true (unsigned_abs m1) 2147483647 small in
    fits_signed_from_abs w64 (m1 +ℤ product) (omega (arith, ints, low, near))

-- numbers below so many, each so many behind another
pub stride_below : (test : ℕ → Bool) (many first stride count : ℕ) → filter test (range_with_len 0 many) ≡ strided first stride count → (k : ℕ) → k < count → first + k * stride < many
stride_below test many first stride count is k lt =
    let all : All (λ n. n < many) (range_with_len 0 many) = λ i d below.
    let inside : i < many = omega (arith, below, length-range_with_len 0 many) in omega (arith, inside, get_or-range_with_len 0 many i d inside) in
    let kept = subst (All (λ n. n < many)) is (All-filter test (λ n. n < many) (range_with_len 0 many) all) in
    let few : k < length (range_with_len 0 count) = omega (arith, lt, length-range_with_len 0 count) in
    let at : get_or (strided first stride count) k 0 ≡ first + k * stride =
    get_or-map (λ j. first + j * stride) (range_with_len 0 count) k 0 0 few ∙ ap (λ j. first + j * stride) (get_or-range_with_len 0 count k 0 lt ∙ omega arith) in
    let here = kept k 0 (omega (arith, few, length-map (range_with_len 0 count) (λ j. first + j * stride))) in
    omega (arith, at, here)

-- a loop makes few trips, since their values are small
pub trips_few : (m1 m2 m3 : ℤ) → is_small m1 ≡ true → nat_lt 0 (unsigned_abs m3) ≡ true → list_all is_small (trips m1 m2 m3) ≡ true → trip_count m1 m2 m3 ≤ 2 ^ 32
trips_few m1 m2 m3 small moves all = by_count (trip_count m1 m2 m3) (AllPass-from_list_all is_small (trips m1 m2 m3) all)
  where
    value : ℕ → ℤ
    value n = m1 +ℤ (pos n *ℤ m3)

    by_count : (count : ℕ) → All (λ v. is_small v ≡ true) (map value (range_with_len 0 count)) → count ≤ 2 ^ 32
    by_count zero each = omega arith
    by_count (suc n) each =
        let few : n < length (range_with_len 0 (suc n)) = omega (arith, length-range_with_len 0 (suc n)) in
        let at : get_or (map value (range_with_len 0 (suc n))) n (pos 0) ≡ value n =
        get_or-map value (range_with_len 0 (suc n)) n 0 (pos 0) few ∙ ap value (get_or-range_with_len 0 (suc n) n 0 (omega arith) ∙ omega arith) in
        let last = each n (pos 0) (omega (arith, few, length-map (range_with_len 0 (suc n)) value)) in
        last_few n (ap is_small (sym at) ∙ last)
      where
        last_few : (n : ℕ) → is_small (value n) ≡ true → suc n ≤ 2 ^ 32
        last_few n h =
            let first = leb-true (unsigned_abs m1) 2147483647 small in
            let near = leb-true (unsigned_abs (value n)) 2147483647 h in
            let some = ltb-true 0 (unsigned_abs m3) moves in
            let product : unsigned_abs (pos n *ℤ m3) ≡ n * unsigned_abs m3 = unsigned_abs-mul (pos n) m3 in
            let least = mul-le n 1 n (unsigned_abs m3) (omega arith) (omega (arith, some)) in
            omega (arith, ints, first, near, product, least)

-- the same by the numbers that the code finds
pub own_values_are : (params : List ℤ) (a : Anchor) (workers p : ℕ) (head : Head) (loops : List ℤ) → is_form a.form ≡ true → 0 < head.number → head.number - 1 < length loops →
    (m1 m2 coefficient fixed product rise : ℤ) (count first stride n : ℕ) → m1 ≡ form_value head.m1 loops params → m2 ≡ form_value head.m2 loops params → coefficient ≡ coefficient_of a.form.loops head.number →
    fixed ≡ form_value a.form (with_loop loops head.number (pos 0)) params → product ≡ coefficient *ℤ m1 → rise ≡ coefficient *ℤ head.step → count ≡ trip_count m1 m2 head.step →
    own_numbers a.dist workers p (fixed +ℤ product) rise count ≡ strided first stride n → map (λ k. m1 +ℤ (pos k *ℤ head.step)) (strided first stride n) ≡ own_values params a workers p head loops
own_values_are params a workers p head loops form some within m1 m2 coefficient fixed product rise count first stride n e1 e2 e3 e4 e5 e6 e7 own =
    let g : ℤ → ℕ → ℤ = λ z k. z +ℤ (pos k *ℤ head.step) in
    let numbers : ℤ → ℤ → ℕ → List ℕ = λ start step many. own_numbers a.dist workers p start step many in
    let first_is : coefficient *ℤ m1 ≡ coefficient_of a.form.loops head.number *ℤ form_value head.m1 loops params = ap (λ z. z *ℤ m1) e3 ∙ ap (λ z. coefficient_of a.form.loops head.number *ℤ z) e1 in
    let start_is = ap (λ z. z +ℤ product) e4 ∙ ap (λ z. form_value a.form (with_loop loops head.number (pos 0)) params +ℤ z) (e5 ∙ first_is) in
    let rise_is = e6 ∙ ap (λ z. z *ℤ head.step) e3 in
    let count_is = e7 ∙ ap (λ z. trip_count z m2 head.step) e1 ∙ ap (λ z. trip_count (form_value head.m1 loops params) z head.step) e2 in
    ap (map (g m1)) (sym own) ∙ ap (λ z. map (g z) (numbers (fixed +ℤ product) rise count)) e1
    ∙ ap (λ z. map (g (form_value head.m1 loops params)) (numbers z rise count)) start_is
    ∙ ap (λ z. map (g (form_value head.m1 loops params)) (numbers (form_value a.form (with_loop loops head.number (pos 0)) params +ℤ coefficient_of a.form.loops head.number *ℤ form_value head.m1 loops params) z count)) rise_is
    ∙ ap (λ z. map (g (form_value head.m1 loops params)) (numbers (form_value a.form (with_loop loops head.number (pos 0)) params +ℤ coefficient_of a.form.loops head.number *ℤ form_value head.m1 loops params) (coefficient_of a.form.loops head.number *ℤ head.step) z)) count_is
    ∙ sym (own_by_number params a workers p head loops form some within)

pub sum_fits : (fixed product : ℤ) → unsigned_abs fixed ≤ 2 ^ 127 - 2 ^ 94 → unsigned_abs product ≤ 2 ^ 62 → FitsSigned w128 (fixed +ℤ product)
sum_fits fixed product a b = fits_signed_from_abs w128 (fixed +ℤ product) (omega (arith, ints, a, b))

strided-length : (first stride count : ℕ) → length (strided first stride count) ≡ count
strided-length first stride count = length-map (range_with_len 0 count) (λ k. first + k * stride) ∙ length-range_with_len 0 count

-- one trip, which is owned or not
pub one_trip : (owned : Bool) (first stride count : ℕ) → (if owned then 0 ∷ [] else []) ≡ strided first stride count → nat_lt 0 count ≡ owned
one_trip true first stride count e = lt-ltb 0 count (omega (arith, ap (λ (xs : List ℕ). length xs) e, strided-length first stride count))
one_trip false first stride count e = le-ltb 0 count (omega (arith, ap (λ (xs : List ℕ). length xs) e, strided-length first stride count))
