-- The subscripts of `bench`'s program are in range.
use Rattle.std.proofs.Common.{◌≡◌, ℕ, zero, ◌+◌, ◌≤◌, ℤ, pos, negsuc, ◌+ℤ◌, ◌*ℤ◌, ◌≤ℤ◌, Bool, true, List, [], ◌∷◌, refl, ◌∙◌, arith}
use Rattle.std.specs.List.{list_all}
use Rattle.std.proofs.lemmas.Bool.{and_from}
use Rattle.std.proofs.lemmas.Int.{ints}
use Rattle.std.proofs.lemmas.List.Folds.{list_all-append}
use Rattle.nest_tree.specs.Form.{Form, form_value}
use Rattle.nest_tree.specs.Tree.{Statement, Statements, continue, do_loop, done, next}
use Rattle.nest_model.specs.Instances.{Instance, instances_in, instances_of, with_loop, works_in}
use Rattle.nest_model.specs.Ranges.{IsInRange, is_inside, is_instance_inside}
use Rattle.nest_model.proofs.Small.{list_all-flat_map}
use Rattle.nest_model.proofs.Spans.{all_trips, up}
use Rattle.bench_program.proofs.Faultless.{at_constant, filling, fixed, halving, head, printing, sweep, taking, tree}

module _ (p : Instance → Bool) (params : List ℤ) where
  in-loop : (number line : ℕ) (m1 m2 : Form) (body : Statements) (first : ℕ) (loops : List ℤ)
      → ((v : ℤ) → form_value m1 loops params ≤ℤ v → v ≤ℤ form_value m2 loops params → list_all p (instances_in params body first (with_loop loops number v)) ≡ true)
      → list_all p (instances_of params (do_loop (head number m1 m2 line) body) first loops) ≡ true
  in-loop number line m1 m2 body first loops each =
      list_all-flat_map p (λ v. instances_in params body first (with_loop loops number v)) _
      (all_trips (λ v. list_all p (instances_in params body first (with_loop loops number v))) (form_value m1 loops params) (form_value m2 loops params) (pos 1)
      (λ n lt. let ends = up n zero (form_value m1 loops params) (form_value m2 loops params) lt in each (form_value m1 loops params +ℤ (pos n *ℤ pos 1)) ends.0 ends.1))

  in-next : (s : Statement) (rest : Statements) (first : ℕ) (loops : List ℤ) → list_all p (instances_of params s first loops) ≡ true → list_all p (instances_in params rest (first + works_in s) loops) ≡ true
      → list_all p (instances_in params (next s rest) first loops) ≡ true
  in-next s rest first loops here more = list_all-append p (instances_of params s first loops) (instances_in params rest (first + works_in s) loops) ∙ and_from _ _ here more

-- a value within the bounds of both arrays
within : (last : ℕ) (v : ℤ) → pos 0 ≤ℤ v → v ≤ℤ pos last → is_inside (pos 0, pos last) v ≡ true
within last v low high = grind (arith, ints)

module _ (points sweeps : ℕ) (some : 1 ≤ points) where
  abbrev params : List ℤ
  params = pos points ∷ pos sweeps ∷ []

  abbrev good : Instance → Bool
  good = is_instance_inside (tree points sweeps (pos (points + 1)))

  -- the subscript of a loop's variable and a number
  at_value : (z v : ℤ) → pos 0 ≤ℤ (z +ℤ v) → (z +ℤ v) ≤ℤ pos (points + 1) → is_inside (pos 0, pos (points + 1)) (z +ℤ (pos 1 *ℤ v +ℤ pos 0) +ℤ pos 0) ≡ true
  at_value z v low high = within (points + 1) (z +ℤ (pos 1 *ℤ v +ℤ pos 0) +ℤ pos 0) (omega (arith, ints, low)) (omega (arith, ints, high))

  filled : (v : ℤ) → pos 0 ≤ℤ v → v ≤ℤ pos (points + 1) → list_all good (instances_in params (next filling done) 1 (v ∷ pos 0 ∷ pos 0 ∷ pos 0 ∷ [])) ≡ true
  filled v low high = rw (at_value (pos 0) v (omega (arith, ints, low)) (omega (arith, ints, high))) refl

  halved : (t v : ℤ) → pos 1 ≤ℤ v → v ≤ℤ pos points → list_all good (instances_in params (next halving done) 2 (pos 0 ∷ t ∷ v ∷ pos 0 ∷ [])) ≡ true
  halved t v low high =
      rw (
        at_value (negsuc 0) v (omega (arith, ints, low)) (omega (arith, ints, high)),
        at_value (pos 1) v (omega (arith, ints, low)) (omega (arith, ints, high)),
        at_value (pos 0) v (omega (arith, ints, low)) (omega (arith, ints, high)),
      )
      refl

  taken : (t v : ℤ) → pos 1 ≤ℤ v → v ≤ℤ pos points → list_all good (instances_in params (next taking done) 3 (pos 0 ∷ t ∷ pos 0 ∷ v ∷ [])) ≡ true
  taken t v low high = rw (at_value (pos 0) v (omega (arith, ints, low)) (omega (arith, ints, high))) refl

  swept : (t : ℤ) → list_all good (instances_in params sweep 2 (pos 0 ∷ t ∷ pos 0 ∷ pos 0 ∷ [])) ≡ true
  swept t =
      let loops = pos 0 ∷ t ∷ pos 0 ∷ pos 0 ∷ [] in
      in-next good params (do_loop (head 3 (fixed (pos 1)) (at_constant 1 (pos 0)) 8) (next halving done)) (next (do_loop (head 4 (fixed (pos 1)) (at_constant 1 (pos 0)) 10) (next taking done)) (next (continue 12) done)) 2 loops
      (in-loop good params 3 8 (fixed (pos 1)) (at_constant 1 (pos 0)) (next halving done) 2 loops (λ v low high. halved t v (omega (arith, ints, low)) (omega (arith, ints, high))))
      (in-next good params (do_loop (head 4 (fixed (pos 1)) (at_constant 1 (pos 0)) 10) (next taking done)) (next (continue 12) done) 3 loops
      (in-loop good params 4 10 (fixed (pos 1)) (at_constant 1 (pos 0)) (next taking done) 3 loops (λ v low high. taken t v (omega (arith, ints, low)) (omega (arith, ints, high)))) refl)

  printed : list_all good (instances_in params (next printing done) 4 (pos 0 ∷ pos 0 ∷ pos 0 ∷ pos 0 ∷ [])) ≡ true
  printed =
      rw (
        within (points + 1) (pos 1) (omega (arith, ints)) (omega (arith, ints, some)),
        within (points + 1) (pos 0 +ℤ pos 0 +ℤ (pos 1 *ℤ pos points +ℤ pos 0)) (omega (arith, ints)) (omega (arith, ints)),
      )
      refl

  pub all_inside : IsInRange (tree points sweeps (pos (points + 1)))
  all_inside =
      let loops = pos 0 ∷ pos 0 ∷ pos 0 ∷ pos 0 ∷ [] in
      in-next good params (do_loop (head 1 (fixed (pos 0)) (at_constant 1 (pos 1)) 5) (next filling done)) (next (do_loop (head 2 (fixed (pos 1)) (at_constant 2 (pos 0)) 7) sweep) (next printing done)) 1 loops
      (in-loop good params 1 5 (fixed (pos 0)) (at_constant 1 (pos 1)) (next filling done) 1 loops (λ v low high. filled v (omega (arith, ints, low)) (omega (arith, ints, high))))
      (in-next good params (do_loop (head 2 (fixed (pos 1)) (at_constant 2 (pos 0)) 7) sweep) (next printing done) 2 loops
      (in-loop good params 2 7 (fixed (pos 1)) (at_constant 2 (pos 0)) sweep 2 loops (λ t low high. swept t)) printed)
