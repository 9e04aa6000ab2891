-- A function of six values that is their sum with fixed steps from its value at the origin: each cell is one.
use Rattle.std.proofs.Common.{◌≡◌, ℕ, zero, suc, ◌==◌, ℤ, pos, ◌+ℤ◌, ◌-ℤ◌, ◌*ℤ◌, true, false, List, [], ◌∷◌, get_or, set, if◌then◌else◌, ap, sym, ◌∙◌, arith}
use Rattle.std.proofs.lemmas.Int.{ints}
use Rattle.std.proofs.Math.IntN.{*ℤ-zero, zero-*ℤ}
use Rattle.list_lemmas.proofs.Integers.{add-mul, mul-add, mul_assoc_ℤ}
use Rattle.nest_tree.specs.Form.{Form, dot}
use Rattle.nest_walk.specs.Paths.{dot_among, form_among, origin, rounds_to, value_among}
use Rattle.nest_walk.specs.Places.{place_among}
use Rattle.nest_walk.proofs.Products.{mul-less}

abbrev six : ℤ → ℤ → ℤ → ℤ → ℤ → ℤ → List ℤ
six a b c d e f = a ∷ b ∷ c ∷ d ∷ e ∷ f ∷ []

-- the step along one of the values
abbrev pub step_of : (List ℤ → ℤ) → ℕ → ℤ
step_of g depth = g (set origin depth (pos 1)) -ℤ g origin

pub record IsAffine (g : List ℤ → ℤ) : Type 0 where
  pub sum : (a b c d e f : ℤ) → g (six a b c d e f)
      ≡ g origin +ℤ (step_of g 0 *ℤ a +ℤ (step_of g 1 *ℤ b +ℤ (step_of g 2 *ℤ c +ℤ (step_of g 3 *ℤ d +ℤ (step_of g 4 *ℤ e +ℤ (step_of g 5 *ℤ f +ℤ pos 0))))))

-- sums of six parts
abbrev total : ℤ → ℤ → ℤ → ℤ → ℤ → ℤ → ℤ
total a b c d e f = a +ℤ (b +ℤ (c +ℤ (d +ℤ (e +ℤ (f +ℤ pos 0)))))

-- parts that are sums, and parts that are multiples
gather : (x y x' y' t0 t1 t2 t3 t4 t5 u0 u1 u2 u3 u4 u5 w0 w1 w2 w3 w4 w5 : ℤ) → x ≡ x' +ℤ total t0 t1 t2 t3 t4 t5 → y ≡ y' +ℤ total u0 u1 u2 u3 u4 u5 →
    w0 ≡ t0 +ℤ u0 → w1 ≡ t1 +ℤ u1 → w2 ≡ t2 +ℤ u2 → w3 ≡ t3 +ℤ u3 → w4 ≡ t4 +ℤ u4 → w5 ≡ t5 +ℤ u5 → x +ℤ y ≡ x' +ℤ y' +ℤ total w0 w1 w2 w3 w4 w5
gather x y x' y' t0 t1 t2 t3 t4 t5 u0 u1 u2 u3 u4 u5 w0 w1 w2 w3 w4 w5 p q e0 e1 e2 e3 e4 e5 = omega (arith, ints, p, q, e0, e1, e2, e3, e4, e5)

spread : (z x' t0 t1 t2 t3 t4 t5 w0 w1 w2 w3 w4 w5 : ℤ) → w0 ≡ z *ℤ t0 → w1 ≡ z *ℤ t1 → w2 ≡ z *ℤ t2 → w3 ≡ z *ℤ t3 → w4 ≡ z *ℤ t4 → w5 ≡ z *ℤ t5 →
    z *ℤ (x' +ℤ total t0 t1 t2 t3 t4 t5) ≡ z *ℤ x' +ℤ total w0 w1 w2 w3 w4 w5
spread z x' t0 t1 t2 t3 t4 t5 w0 w1 w2 w3 w4 w5 e0 e1 e2 e3 e4 e5 =
    let s5 : z *ℤ (t5 +ℤ pos 0) ≡ w5 +ℤ pos 0 = mul-add z t5 (pos 0) ∙ ap (λ r. r +ℤ z *ℤ pos 0) (sym e5) ∙ ap (λ r. w5 +ℤ r) (*ℤ-zero z) in
    let s4 = mul-add z t4 (t5 +ℤ pos 0) ∙ ap (λ r. r +ℤ z *ℤ (t5 +ℤ pos 0)) (sym e4) ∙ ap (λ r. w4 +ℤ r) s5 in
    let s3 = mul-add z t3 (t4 +ℤ (t5 +ℤ pos 0)) ∙ ap (λ r. r +ℤ z *ℤ (t4 +ℤ (t5 +ℤ pos 0))) (sym e3) ∙ ap (λ r. w3 +ℤ r) s4 in
    let s2 = mul-add z t2 (t3 +ℤ (t4 +ℤ (t5 +ℤ pos 0))) ∙ ap (λ r. r +ℤ z *ℤ (t3 +ℤ (t4 +ℤ (t5 +ℤ pos 0)))) (sym e2) ∙ ap (λ r. w2 +ℤ r) s3 in
    let s1 = mul-add z t1 (t2 +ℤ (t3 +ℤ (t4 +ℤ (t5 +ℤ pos 0)))) ∙ ap (λ r. r +ℤ z *ℤ (t2 +ℤ (t3 +ℤ (t4 +ℤ (t5 +ℤ pos 0))))) (sym e1) ∙ ap (λ r. w1 +ℤ r) s2 in
    let s0 = mul-add z t0 (t1 +ℤ (t2 +ℤ (t3 +ℤ (t4 +ℤ (t5 +ℤ pos 0))))) ∙ ap (λ r. r +ℤ z *ℤ (t1 +ℤ (t2 +ℤ (t3 +ℤ (t4 +ℤ (t5 +ℤ pos 0)))))) (sym e0) ∙ ap (λ r. w0 +ℤ r) s1 in
    mul-add z x' (total t0 t1 t2 t3 t4 t5) ∙ ap (λ r. z *ℤ x' +ℤ r) s0

sum_term : (x y x' y' v : ℤ) → ((x +ℤ y) -ℤ (x' +ℤ y')) *ℤ v ≡ (x -ℤ x') *ℤ v +ℤ (y -ℤ y') *ℤ v
sum_term x y x' y' v =
    let parts : (x +ℤ y) -ℤ (x' +ℤ y') ≡ (x -ℤ x') +ℤ (y -ℤ y') = omega (arith, ints) in
    ap (λ z. z *ℤ v) parts ∙ add-mul (x -ℤ x') (y -ℤ y') v

multiple_term : (z x x' v : ℤ) → (z *ℤ x -ℤ z *ℤ x') *ℤ v ≡ z *ℤ ((x -ℤ x') *ℤ v)
multiple_term z x x' v = ap (λ y. y *ℤ v) (sym (mul-less z x x')) ∙ mul_assoc_ℤ z (x -ℤ x') v

-- a step that is none
no_step : (z v : ℤ) → (z -ℤ z) *ℤ v ≡ pos 0
no_step z v = let none : z -ℤ z ≡ pos 0 = omega (arith, ints) in ap (λ y. y *ℤ v) none ∙ zero-*ℤ v

alone : (z t0 t1 t2 t3 t4 t5 : ℤ) → t0 ≡ pos 0 → t1 ≡ pos 0 → t2 ≡ pos 0 → t3 ≡ pos 0 → t4 ≡ pos 0 → t5 ≡ pos 0 → z ≡ z +ℤ total t0 t1 t2 t3 t4 t5
alone z t0 t1 t2 t3 t4 t5 e0 e1 e2 e3 e4 e5 = omega (arith, ints, e0, e1, e2, e3, e4, e5)

affine-fixed : (z : ℤ) → IsAffine (λ vs. z)
affine-fixed z = record { sum = λ a b c d e f. alone z _ _ _ _ _ _ (no_step z a) (no_step z b) (no_step z c) (no_step z d) (no_step z e) (no_step z f) }

affine-sum : (g h : List ℤ → ℤ) → IsAffine g → IsAffine h → IsAffine (λ vs. g vs +ℤ h vs)
affine-sum g h p q = record {
  sum = λ a b c d e f.
      let term = λ (k : ℕ) (v : ℤ). sum_term (g (set origin k (pos 1))) (h (set origin k (pos 1))) (g origin) (h origin) v in
      gather _ _ (g origin) (h origin) (step_of g 0 *ℤ a) (step_of g 1 *ℤ b) (step_of g 2 *ℤ c) (step_of g 3 *ℤ d) (step_of g 4 *ℤ e) (step_of g 5 *ℤ f)
      (step_of h 0 *ℤ a) (step_of h 1 *ℤ b) (step_of h 2 *ℤ c) (step_of h 3 *ℤ d) (step_of h 4 *ℤ e) (step_of h 5 *ℤ f) _ _ _ _ _ _
      (p.sum a b c d e f) (q.sum a b c d e f) (term 0 a) (term 1 b) (term 2 c) (term 3 d) (term 4 e) (term 5 f);
}

affine-multiple : (z : ℤ) (g : List ℤ → ℤ) → IsAffine g → IsAffine (λ vs. z *ℤ g vs)
affine-multiple z g p = record {
  sum = λ a b c d e f.
      let term = λ (k : ℕ) (v : ℤ). multiple_term z (g (set origin k (pos 1))) (g origin) v in
      ap (λ y. z *ℤ y) (p.sum a b c d e f)
      ∙ spread z (g origin) (step_of g 0 *ℤ a) (step_of g 1 *ℤ b) (step_of g 2 *ℤ c) (step_of g 3 *ℤ d) (step_of g 4 *ℤ e) (step_of g 5 *ℤ f) _ _ _ _ _ _
      (term 0 a) (term 1 b) (term 2 c) (term 3 d) (term 4 e) (term 5 f);
}

-- one of the values
affine-value : (k : ℕ) → IsAffine (λ vs. get_or vs k (pos 0))
affine-value zero = record { sum = λ a b c d e f. omega (arith, ints) }
affine-value (suc zero) = record { sum = λ a b c d e f. omega (arith, ints) }
affine-value (suc (suc zero)) = record { sum = λ a b c d e f. omega (arith, ints) }
affine-value (suc (suc (suc zero))) = record { sum = λ a b c d e f. omega (arith, ints) }
affine-value (suc (suc (suc (suc zero)))) = record { sum = λ a b c d e f. omega (arith, ints) }
affine-value (suc (suc (suc (suc (suc zero))))) = record { sum = λ a b c d e f. omega (arith, ints) }
affine-value (suc (suc (suc (suc (suc (suc k)))))) = record { sum = λ a b c d e f. omega (arith, ints) }

affine-among : (ns : List ℕ) (depth n : ℕ) → IsAffine (λ vs. value_among (rounds_to ns vs depth) n)
affine-among ns zero n = affine-fixed (pos 0)
affine-among ns (suc k) n =
    let here = affine-value k in
    let there = affine-among ns k n in
    elim (get_or ns k 0 == n) as (λ b. IsAffine (λ vs. if b then get_or vs k (pos 0) else value_among (rounds_to ns vs k) n)) [ true ↦ here | false ↦ there ]

affine-dot : (ns : List ℕ) (depth : ℕ) (pairs : List (ℕ × ℤ)) → IsAffine (λ vs. dot_among pairs (rounds_to ns vs depth))
affine-dot ns depth [] = affine-fixed (pos 0)
affine-dot ns depth (p ∷ pairs) =
    affine-sum (λ vs. p.1 *ℤ value_among (rounds_to ns vs depth) p.0) (λ vs. dot_among pairs (rounds_to ns vs depth))
    (affine-multiple p.1 (λ vs. value_among (rounds_to ns vs depth) p.0) (affine-among ns depth p.0)) (affine-dot ns depth pairs)

affine-form : (ns : List ℕ) (depth : ℕ) (f : Form) (params : List ℤ) → IsAffine (λ vs. form_among f (rounds_to ns vs depth) params)
affine-form ns depth f params =
    affine-sum (λ vs. f.constant +ℤ dot_among f.loops (rounds_to ns vs depth)) (λ vs. dot f.params params)
    (affine-sum (λ vs. f.constant) (λ vs. dot_among f.loops (rounds_to ns vs depth)) (affine-fixed f.constant) (affine-dot ns depth f.loops)) (affine-fixed (dot f.params params))

less_step : (x x' z v : ℤ) → ((x -ℤ z) -ℤ (x' -ℤ z)) *ℤ v ≡ (x -ℤ x') *ℤ v
less_step x x' z v = let same : (x -ℤ z) -ℤ (x' -ℤ z) ≡ x -ℤ x' = omega (arith, ints) in ap (λ y. y *ℤ v) same

lessen : (x x' z t0 t1 t2 t3 t4 t5 w0 w1 w2 w3 w4 w5 : ℤ) → x ≡ x' +ℤ total t0 t1 t2 t3 t4 t5 → w0 ≡ t0 → w1 ≡ t1 → w2 ≡ t2 → w3 ≡ t3 → w4 ≡ t4 → w5 ≡ t5 → x -ℤ z ≡ x' -ℤ z +ℤ total w0 w1 w2 w3 w4 w5
lessen x x' z t0 t1 t2 t3 t4 t5 w0 w1 w2 w3 w4 w5 p e0 e1 e2 e3 e4 e5 = omega (arith, ints, p, e0, e1, e2, e3, e4, e5)

-- a difference to a number
affine-less : (g : List ℤ → ℤ) (z : ℤ) → IsAffine g → IsAffine (λ vs. g vs -ℤ z)
affine-less g z p = record {
  sum = λ a b c d e f.
      let term = λ (k : ℕ) (v : ℤ). less_step (g (set origin k (pos 1))) (g origin) z v in
      lessen _ (g origin) z (step_of g 0 *ℤ a) (step_of g 1 *ℤ b) (step_of g 2 *ℤ c) (step_of g 3 *ℤ d) (step_of g 4 *ℤ e) (step_of g 5 *ℤ f) _ _ _ _ _ _
      (p.sum a b c d e f) (term 0 a) (term 1 b) (term 2 c) (term 3 d) (term 4 e) (term 5 f);
}

pub affine-place : (ns : List ℕ) (depth : ℕ) (bounds : List (ℤ × ℤ)) (subscripts : List Form) (params : List ℤ) → IsAffine (λ vs. place_among bounds subscripts (rounds_to ns vs depth) params)
affine-place ns depth [] subscripts params = affine-fixed (pos 0)
affine-place ns depth (b ∷ bounds) [] params = affine-fixed (pos 0)
affine-place ns depth (b ∷ bounds) (f ∷ subscripts) params =
    let extent = b.1 -ℤ b.0 +ℤ pos 1 in
    affine-sum (λ vs. form_among f (rounds_to ns vs depth) params -ℤ b.0) (λ vs. extent *ℤ place_among bounds subscripts (rounds_to ns vs depth) params)
    (affine-less (λ vs. form_among f (rounds_to ns vs depth) params) b.0 (affine-form ns depth f params))
    (affine-multiple extent (λ vs. place_among bounds subscripts (rounds_to ns vs depth) params) (affine-place ns depth bounds subscripts params))

pub affine-cell : (first : ℤ) (ns : List ℕ) (depth : ℕ) (bounds : List (ℤ × ℤ)) (subscripts : List Form) (params : List ℤ) → IsAffine (λ vs. first +ℤ place_among bounds subscripts (rounds_to ns vs depth) params)
affine-cell first ns depth bounds subscripts params =
    affine-sum (λ vs. first) (λ vs. place_among bounds subscripts (rounds_to ns vs depth) params) (affine-fixed first) (affine-place ns depth bounds subscripts params)
