-- Numbers of variables, and their dimensions.
use Rattle.std.proofs.Common.{◌≡◌, ℕ, suc, ◌+◌, ◌≤◌, nat_le, Bool, true, false, ◌&&◌, List, [], ◌∷◌, length, if◌then◌else◌, Option, Some, None, IsTrue, refl, sym, ap, ◌∙◌, arith}
use Rattle.std.proofs.lemmas.Bool.{and_parts}
use Rattle.std.proofs.lemmas.Bool.Decides.{nat_tests}
use Rattle.std.specs.List.{list_all}
use Rattle.std.specs.Option.{option_map}
use Rattle.std.specs.Str.{bytes_eq}
use Rattle.nest_tree.specs.WellFormed.{is_good_dimension}
use Rattle.f77_program.specs.Numbered.{numbered}
use Rattle.f77_program.proofs.Mapped.{numbered-cons}
use Rattle.f77_scene.specs.Scene.{Name, Array, number_among, bounds_named}
use Rattle.f77_source.specs.Limits.{is_good_array}

-- a name that is not there has one more than all as its number
pub number_among-missing : (names : List Name) (n : Name) → numbered names n ≡ None → number_among names n ≡ length names + 1
number_among-missing [] n h = refl
number_among-missing (m ∷ names) n h = by_test (bytes_eq m n) refl (number_among-missing names n)
  where
    none : (o : Option ℕ) → option_map suc o ≡ None → o ≡ None
    none None e = refl
    none (Some j) e = absurd cc

    by_test : (b : Bool) → bytes_eq m n ≡ b → (numbered names n ≡ None → number_among names n ≡ length names + 1) → number_among (m ∷ names) n ≡ length (m ∷ names) + 1
    by_test true e rest = absurd (let one : Some 1 ≡ None = sym (numbered-cons m names n ∙ ap (λ b. if b then Some 1 else option_map suc (numbered names n)) e) ∙ h in cc)
    by_test false e rest =
        let behind : number_among names n ≡ length names + 1 = rest (none (numbered names n) (sym (numbered-cons m names n ∙ ap (λ b. if b then Some 1 else option_map suc (numbered names n)) e) ∙ h)) in
        ap (λ b. if b then 1 else suc (number_among names n)) e ∙ omega arith

-- ---- dimensions

-- an array among good ones is good, or is not there
pub bounds-good : (arrays : List Array) (n : Name) → IsTrue (list_all is_good_array arrays) → (list_all is_good_dimension (bounds_named arrays n) ≡ true) × (length (bounds_named arrays n) ≤ 3)
bounds-good [] n h = (refl, omega arith)
bounds-good (a ∷ arrays) n h = (let both = and_parts (is_good_array a) (list_all is_good_array arrays) h in by_test (bytes_eq a.name n) both.0 (bounds-good arrays n both.1))
  where
    by_test : (b : Bool) → is_good_array a ≡ true → (list_all is_good_dimension (bounds_named arrays n) ≡ true) × (length (bounds_named arrays n) ≤ 3)
        → (list_all is_good_dimension (if b then a.bounds else bounds_named arrays n) ≡ true) × (length (if b then a.bounds else bounds_named arrays n) ≤ 3)
    by_test true good rest =
        let parts = and_parts (list_all is_good_dimension a.bounds && nat_le 1 (length a.bounds)) (nat_le (length a.bounds) 3) good in
        let first = and_parts (list_all is_good_dimension a.bounds) (nat_le 1 (length a.bounds)) parts.0 in
        let few : nat_le (length a.bounds) 3 ≡ true = parts.1 in
        (first.0, grind (arith, nat_tests))
    by_test false good rest = rest
