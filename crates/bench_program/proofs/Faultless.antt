-- The statements of `bench`'s program have no fault, and stand for this tree.
use Rattle.std.proofs.Common.{◌≡◌, ℕ, ◌+◌, ◌≤◌, ℤ, pos, negsuc, ◌+ℤ◌, true, false, List, [], ◌∷◌, None, refl, ap, ◌∙◌, arith}
use Rattle.std.specs.Prelude.{codes, int_lt}
use Rattle.std.specs.Int.{w64}
use Rattle.std.specs.Option.{option_or}
use Rattle.std.proofs.lemmas.Bool.Decides.{nat_tests}
use Rattle.std.proofs.lemmas.Int.{int_wrap_fits}
use Rattle.nest_tree.specs.declared.tree.Access.{Access}
use Rattle.nest_tree.specs.declared.tree.Spread.TheVariants.{Block}
use Rattle.nest_tree.specs.Form.{Form, is_small}
use Rattle.nest_tree.specs.Tree.{Constant, Declaration, Head, Statement, Statements, Tree, add, assign, continue, div, do_loop, done, load, loop_value, mul, next, number, print, sub, value, work}
use Rattle.nest_tree.specs.Values.{wrapped}
use Rattle.nest_tree.proofs.Sums.{small-fits}
use Rattle.f77_forms.specs.Characters.{decimal}
use Rattle.f77_scene.specs.Scene.{first_scene}
use Rattle.f77_scene.specs.Reading.{body_from, directives_of, fault_from, first_fault_in, first_fault_of, given_with, last_body, last_scene, program_in, scene_from, tree_from}
use Rattle.bench_program.proofs.Rows.{entries, statements}
use Rattle.bench_program.proofs.Listed.{AreDigits}
use Rattle.bench_program.proofs.Stated.{source-stated}

-- ---- the tree

abbrev pub fixed : ℤ → Form
fixed z = record { constant = z; loops = []; params = [] }

-- the variable of the loop with this number, and a number
abbrev pub at_loop : ℕ → ℤ → Form
at_loop n z = record { constant = z; loops = (n, pos 1) ∷ []; params = [] }

-- the named constant with this number, and a number
abbrev pub at_constant : ℕ → ℤ → Form
at_constant n z = record { constant = z; loops = []; params = (n, pos 1) ∷ [] }

abbrev pub element : ℕ → Form → Access
element variable subscript = record { variable = variable; subscripts = subscript ∷ [] }

abbrev pub head : ℕ → Form → Form → ℕ → Head
head n m1 m2 line = record { number = n; m1 = m1; m2 = m2; step = pos 1; line = line }

-- the first loop fills A
abbrev pub filling : Statement
filling =
    work (assign (record {
      target = element 1 (at_loop 1 (pos 0));
      value = sub (mul (number (pos 7)) (loop_value 1)) (mul (loop_value 1) (loop_value 1));
      guard = None;
      line = 6;
    }))

-- the third halves the sums of neighbours, and the fourth takes the halves over
abbrev pub halving : Statement
halving =
    work (assign (record {
      target = element 2 (at_loop 3 (pos 0));
      value = div (add (load (element 1 (at_loop 3 (negsuc 0)))) (load (element 1 (at_loop 3 (pos 1))))) (pos 2);
      guard = None;
      line = 9;
    }))

abbrev pub taking : Statement
taking = work (assign (record { target = element 1 (at_loop 4 (pos 0)); value = load (element 2 (at_loop 4 (pos 0))); guard = None; line = 11 }))

abbrev pub printing : Statement
printing = work (print (record { items = value (load (element 1 (fixed (pos 1)))) ∷ value (load (element 1 (at_constant 1 (pos 0)))) ∷ []; line = 13 }))

abbrev pub sweep : Statements
sweep =
    next (do_loop (head 3 (fixed (pos 1)) (at_constant 1 (pos 0)) 8) (next halving done))
    (next (do_loop (head 4 (fixed (pos 1)) (at_constant 1 (pos 0)) 10) (next taking done)) (next (continue 12) done))

abbrev pub items : Statements
items =
    next (do_loop (head 1 (fixed (pos 0)) (at_constant 1 (pos 1)) 5) (next filling done))
    (next (do_loop (head 2 (fixed (pos 1)) (at_constant 2 (pos 0)) 7) sweep) (next printing done))

abbrev pub constants : ℕ → ℕ → List Constant
constants points sweeps = record { name = codes "N"; value = pos points } ∷ record { name = codes "M"; value = pos sweeps } ∷ []

abbrev pub array : List ℕ → ℤ → Declaration
array n last = record { name = n; bounds = (pos 0, last) ∷ []; axis = 1; spread = Block }

-- for so many points and sweeps, where the arrays end here
abbrev pub tree : ℕ → ℕ → ℤ → Tree
tree points sweeps last = record { items = items; params = constants points sweeps; variables = array (codes "A") last ∷ array (codes "B") last ∷ [] }

-- ---- no fault

-- the value of N+1
abbrev pub last_of : ℕ → ℤ
last_of points = wrapped (pos points +ℤ pos 1)

pub last-is : (points : ℕ) → points ≤ 500000 → last_of points ≡ pos (points + 1)
last-is points few = (let small : is_small (pos (points + 1)) ≡ true = grind (arith, nat_tests) in int_wrap_fits w64 (pos (points + 1)) (small-fits (pos (points + 1)) small))

module _ (ds es : List ℕ) (few : decimal ds ≤ 500000) where
  last-small : is_small (last_of (decimal ds)) ≡ true
  last-small = rw (last-is (decimal ds) few) (grind (arith, nat_tests))

  last-positive : int_lt (last_of (decimal ds)) (pos 0) ≡ false
  last-positive = rw (last-is (decimal ds) few) (grind (arith, nat_tests))

  no_fault : fault_from (given_with (statements ds es) []) first_scene (statements ds es) ≡ None
  unfolding fault_from
  no_fault = rw (last-small, last-positive) refl

  stands : tree_from (directives_of (entries ds es)) (last_scene (statements ds es) []) (last_body (statements ds es) []) ≡ tree (decimal ds) (decimal es) (last_of (decimal ds))
  unfolding scene_from body_from
  stands = refl

  module _ (a : AreDigits ds) (b : AreDigits es) where
    pub statements-faultless : first_fault_in (entries ds es) [] ≡ None
    statements-faultless = ap (λ ps. first_fault_of ps []) (source-stated ds es a b) ∙ ap (λ o. option_or o None) no_fault

    pub program-is : program_in (entries ds es) [] ≡ tree (decimal ds) (decimal es) (pos (decimal ds + 1))
    program-is =
        ap (λ ps. tree_from (directives_of (entries ds es)) (last_scene ps []) (last_body ps [])) (source-stated ds es a b)
        ∙ stands
        ∙ ap (tree (decimal ds) (decimal es)) (last-is (decimal ds) few)
