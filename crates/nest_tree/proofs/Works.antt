-- Work, which is linear in the width, and numbers that count as 2 ^ 64 past it.
use Rattle.std.proofs.Common.{◌≡◌, ℕ, zero, suc, ◌+◌, ◌*◌, ◌^◌, ◌≤◌, ℤ, pos, negsuc, ◌+ℤ◌, ◌-ℤ◌, ◌≤ℤ◌, ◌<ℤ◌, true, false, List, [], ◌∷◌, get_or, set, inl, inr, Option, None, if◌then◌else◌, refl, ap, sym, ◌∙◌, arith}
use Rattle.std.specs.Option.{option_or}
use Rattle.std.proofs.Math.Nat.{mul_assoc, mul-add, mul-zero, zero-mul, le-mul_of_pos_right}
use Rattle.std.proofs.lemmas.Int.{ints}
use Rattle.std.proofs.lemmas.Bool.{cases_lt}
use Rattle.nest_tree.specs.declared.limits.Limit.{Limit}
use Rattle.nest_tree.specs.Intervals.{head_interval, with_ends}
use Rattle.nest_tree.specs.Layout.{count_of, extent}
use Rattle.nest_tree.specs.Limits.{capped, is_empty, wide_at, wide_forms, wide_in, wide_of, work_in, work_of}
use Rattle.nest_tree.specs.Tree.{Head, Statement, Statements, do_loop, work, continue, done, next}

-- work is a multiple of the width
mutual
  pub work_in-linear : (params : List ℤ) (ends : List (ℤ × ℤ)) (width : ℕ) (s : Statement) → work_in params ends width s ≡ width * work_in params ends 1 s
  work_in-linear params ends width (do_loop head body) =
      let interval = head_interval params ends head in
      let inner = with_ends ends head.number interval in
      let x = extent interval in
      let unit = work_of params inner 1 body in
      let whole = work_of-linear params inner (width * x) body ∙ mul_assoc width x unit in
      let one = work_of-linear params inner (1 * x) body in
      let same : 1 * x * unit ≡ x * unit = ap (λ n. n * unit) (omega arith) in
      omega (arith, whole, ap (λ n. width * n) (one ∙ same), mul-add width 1 (work_of params inner (1 * x) body))
  work_in-linear params ends width (work w) = omega arith
  work_in-linear params ends width (continue line) = omega arith

  pub work_of-linear : (params : List ℤ) (ends : List (ℤ × ℤ)) (width : ℕ) (ss : Statements) → work_of params ends width ss ≡ width * work_of params ends 1 ss
  work_of-linear params ends width done = omega arith
  work_of-linear params ends width (next s rest) =
      omega (arith, work_in-linear params ends width s, work_of-linear params ends width rest, mul-add width (work_in params ends 1 s) (work_of params ends 1 rest))

pub capped-sum : (a b : ℕ) → capped (a + capped b) ≡ capped (a + b)
capped-sum a b = omega arith

capped-product : (a b : ℕ) → capped (capped a * b) ≡ capped (a * b)
capped-product a zero = omega (arith, mul-zero a, mul-zero (capped a))
capped-product a (suc b) =
    elim (cases_lt a (2 ^ 64)) [
      | inl lt ↦ ap (λ n. capped (n * suc b)) (omega (arith, lt))
      | inr ge ↦ let same : capped a ≡ 2 ^ 64 = omega (arith, ge) in
          ap (λ n. capped (n * suc b)) same ∙ omega (arith, le-mul_of_pos_right {m = suc b} a (omega arith), le-mul_of_pos_right {m = suc b} (2 ^ 64) (omega arith), ge)
    ]

pub work-capped : (params : List ℤ) (ends : List (ℤ × ℤ)) (width : ℕ) (ss : Statements) → capped (work_of params ends (capped width) ss) ≡ capped (work_of params ends width ss)
work-capped params ends width ss =
    ap capped (work_of-linear params ends (capped width) ss) ∙ capped-product width (work_of params ends 1 ss) ∙ ap capped (sym (work_of-linear params ends width ss))

count_of-none : (z : ℤ) → z ≤ℤ pos 0 → count_of z ≡ 0
count_of-none (pos n) h = omega (arith, ints)
count_of-none (negsuc n) h = refl

-- no work inside a loop without width
pub work-none : (params : List ℤ) (ends : List (ℤ × ℤ)) (width : ℕ) (ss : Statements) → width ≡ 0 → work_of params ends width ss ≡ 0
work-none params ends width ss h = work_of-linear params ends width ss ∙ ap (λ n. n * work_of params ends 1 ss) h ∙ zero-mul (work_of params ends 1 ss)

-- what is refused first in a loop that is not empty, and whose bounds are fine
pub loop-wide : (params : List ℤ) (ends : List (ℤ × ℤ)) (head : Head) (body : Statements) (interval : ℤ × ℤ) (after : Option Limit) →
    None ≡ wide_at head.line (wide_forms params ends (head.m1 ∷ head.m2 ∷ [])) → interval ≡ head_interval params ends head → is_empty interval ≡ false →
    after ≡ wide_of params (with_ends ends head.number interval) body → after ≡ wide_in params ends (do_loop head body)
loop-wide params ends head body interval after fine is some inside =
    let inner = λ (i : ℤ × ℤ). if is_empty i then None else wide_of params (with_ends ends head.number i) body in
    inside ∙ sym (ap (λ b. if b then None else wide_of params (with_ends ends head.number interval) body) some) ∙ ap inner is ∙ ap (λ o. option_or o (inner (head_interval params ends head))) fine

-- the work of a loop that is not empty
pub loop-work : (params : List ℤ) (ends : List (ℤ × ℤ)) (head : Head) (body : Statements) (interval : ℤ × ℤ) (width inside worked total : ℕ) →
    interval ≡ head_interval params ends head → inside ≡ capped (width * extent interval) → worked ≡ capped (work_of params (with_ends ends head.number interval) inside body) →
    total ≡ capped (width + worked) → total ≡ capped (work_in params ends width (do_loop head body))
loop-work params ends head body interval width inside worked total is narrowed body_work sum =
    let inner = λ (i : ℤ × ℤ). work_of params (with_ends ends head.number i) (width * extent i) body in
    let whole = body_work ∙ ap (λ n. capped (work_of params (with_ends ends head.number interval) n body)) narrowed ∙ work-capped params (with_ends ends head.number interval) (width * extent interval) body in
    sum ∙ ap (λ n. capped (width + n)) whole ∙ capped-sum width (inner interval) ∙ ap (λ i. capped (width + inner i)) is

extent-empty : (interval : ℤ × ℤ) → is_empty interval ≡ true → extent interval ≡ 0
extent-empty (low, high) h =
    let below : high <ℤ low = grind (arith, ints) in
    count_of-none (high -ℤ low +ℤ pos 1) (omega (arith, ints, below))

-- an empty loop has the work of its DO statement
pub empty-work : (params : List ℤ) (ends : List (ℤ × ℤ)) (head : Head) (body : Statements) (interval : ℤ × ℤ) (width : ℕ) →
    interval ≡ head_interval params ends head → is_empty interval ≡ true → width ≤ 2 ^ 64 → width ≡ capped (work_in params ends width (do_loop head body))
empty-work params ends head body interval width is empty most =
    let inner = λ (i : ℤ × ℤ). work_of params (with_ends ends head.number i) (width * extent i) body in
    let none : width * extent interval ≡ 0 = ap (λ n. width * n) (extent-empty interval empty) ∙ mul-zero width in
    let nothing : inner interval ≡ 0 = work-none params (with_ends ends head.number interval) (width * extent interval) body none in
    let here : width ≡ capped (width + inner interval) = omega (arith, nothing, most) in
    here ∙ ap (λ i. capped (width + inner i)) is

-- what was there is put back
pub set-back : {X : Type 0} (xs : List X) (i : ℕ) (x d : X) → set (set xs i x) i (get_or xs i d) ≡ xs
set-back [] i x d = refl
set-back (y ∷ xs) zero x d = refl
set-back (y ∷ xs) (suc i) x d = ap (λ zs. y ∷ zs) (set-back xs i x d)
