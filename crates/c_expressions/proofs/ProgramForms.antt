-- The forms and places that are written are the program's.
use Rattle.std.proofs.Common.{◌≡◌, ℕ, ◌+◌, ◌*◌, ◌<◌, ◌≤◌, ◌^◌, ℤ, pos, ◌+ℤ◌, ◌-ℤ◌, ◌*ℤ◌, ◌≤ℤ◌, IsTrue, List, [], ◌∷◌, length, map, unsigned_abs, w64, refl, ap, ap₂, sym, ◌∙◌, arith}
use Rattle.std.specs.List.{list_all}
use Rattle.std.proofs.lemmas.Bool.{and_parts}
use Rattle.std.proofs.lemmas.Int.{int_wrap_fits, ints}
use Rattle.std.proofs.lemmas.Nat.{mul-le}
use Rattle.nest_tree.specs.Form.{Form, dot, form_value}
use Rattle.nest_tree.specs.Layout.{are_inside, count_of, element_count, element_place, extent, is_inside}
use Rattle.nest_tree.specs.Values.{wrapped}
use Rattle.nest_tree.specs.WellFormed.{is_good_dimension}
use Rattle.nest_tree.proofs.Places.{count_of-some, element_count-some, extent-is, good_dimension, inside-ends}
use Rattle.c_expressions.specs.Sums.{HasLoops, Values, form_at, loops_at, place_at}

loops_at-is : (v : Values) (loops : List ℤ) (pairs : List (ℕ × ℤ)) → HasLoops v loops → loops_at v pairs ≡ dot pairs loops
loops_at-is v loops [] has = refl
loops_at-is v loops (p ∷ pairs) has = ap₂ (λ x y. p.1 *ℤ x +ℤ y) (has p.0) (loops_at-is v loops pairs has)

pub form_at-is : (params loops : List ℤ) (f : Form) (v : Values) → HasLoops v loops → form_at params f v ≡ form_value f loops params
form_at-is params loops f v has = ap (λ x. f.constant +ℤ x +ℤ dot f.params params) (loops_at-is v loops f.loops has)

-- ---- places

-- the place along one dimension, with one step of so much, and the step along the next one
step_is : (s c e rest : ℕ) → pos s *ℤ pos c +ℤ pos (s * e * rest) ≡ pos (s * (c + e * rest))
step_is s c e rest = ap pos (spread s c e rest)
  where
    spread : (s c e rest : ℕ) → s * c + s * e * rest ≡ s * (c + e * rest)
    spread s c e rest = grind arith

grouped : (s e n : ℕ) → s * (e * n) ≡ s * e * n
grouped s e n = grind arith

grown : (s e n : ℕ) → 1 ≤ n → s * e ≤ s * (e * n)
grown s e n some = let more = mul-le (s * e) 1 (s * e) n (omega arith) some in let same = grouped s e n in omega (arith, more, same)

regrouped : (s e n : ℕ) → s * (e * n) < 2 ^ 63 → s * e * n < 2 ^ 63
regrouped s e n lt = let same = grouped s e n in omega (arith, lt, same)

next_fits : (s e : ℕ) → s * e < 2 ^ 63 → wrapped (pos s *ℤ pos e) ≡ pos (s * e)
next_fits s e lt = int_wrap_fits w64 (pos (s * e)) (record { sfits = lt })

pub place_at-is : (params loops : List ℤ) (v : Values) → HasLoops v loops → (fs : List Form) (bounds : List (ℤ × ℤ)) (s : ℕ) → length fs ≡ length bounds → IsTrue (list_all is_good_dimension bounds) →
    IsTrue (are_inside bounds (map (λ f. form_value f loops params) fs)) → s * element_count bounds < 2 ^ 63 → place_at params (pos s) fs bounds v ≡ pos (s * element_place bounds (map (λ f. form_value f loops params) fs))
place_at-is params loops v has [] [] s same good inside few = let none : 0 ≡ s * 0 = omega arith in ap pos none
place_at-is params loops v has [] (b ∷ bounds) s same good inside few = absurd (omega (arith, same))
place_at-is params loops v has (f ∷ fs) [] s same good inside few = absurd (omega (arith, same))
place_at-is params loops v has (f ∷ fs) (b ∷ bounds) s same good inside few =
    let x = form_value f loops params in
    let values = map (λ f. form_value f loops params) fs in
    let goods = and_parts (is_good_dimension b) (list_all is_good_dimension bounds) good in
    let insides = and_parts (is_inside b x) (are_inside bounds values) inside in
    let dimension = good_dimension b goods.0 in
    let ends = inside-ends b x insides.0 in
    let offset : pos 0 ≤ℤ (x -ℤ b.0) = let low = ends.0 in omega (arith, ints, low) in
    let along : form_at params f v -ℤ b.0 ≡ pos (count_of (x -ℤ b.0)) = ap (λ y. y -ℤ b.0) (form_at-is params loops f v has) ∙ sym (count_of-some (x -ℤ b.0) offset) in
    let some = element_count-some bounds goods.1 in
    let within : s * extent b ≤ s * (extent b * element_count bounds) = grown s (extent b) (element_count bounds) some in
    let lt : s * extent b < 2 ^ 63 = omega (arith, within, few) in
    let ext : extent b < 2 ^ 63 = small_extent b dimension.low dimension.high (extent-is b dimension) in
    let next : wrapped (pos s *ℤ wrapped (b.1 -ℤ b.0 +ℤ pos 1)) ≡ pos (s * extent b) =
    ap (λ y. wrapped (pos s *ℤ wrapped y)) (sym (extent-is b dimension)) ∙ ap (λ y. wrapped (pos s *ℤ y)) (int_wrap_fits w64 (pos (extent b)) (record { sfits = ext })) ∙ next_fits s (extent b) lt in
    let fewer : s * extent b * element_count bounds < 2 ^ 63 = regrouped s (extent b) (element_count bounds) few in
    let rest = place_at-is params loops v has fs bounds (s * extent b) (omega (arith, same)) goods.1 insides.1 fewer in
    ap₂ (λ y z. pos s *ℤ y +ℤ place_at params z fs bounds v) along next
    ∙ ap (λ y. pos s *ℤ pos (count_of (x -ℤ b.0)) +ℤ y) rest
    ∙ step_is s (count_of (x -ℤ b.0)) (extent b) (element_place bounds values)
  where
    small_extent : (b : ℤ × ℤ) → unsigned_abs b.0 ≤ 2147483647 → unsigned_abs b.1 ≤ 2147483647 → pos (extent b) ≡ b.1 -ℤ b.0 +ℤ pos 1 → extent b < 2 ^ 63
    small_extent b low high is = omega (arith, ints, low, high, is)
