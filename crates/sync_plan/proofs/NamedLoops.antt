-- The loops that the anchor of a static phase may name are the program's.
use Rattle.std.proofs.Common.{◌≡◌, ℕ, ◌+◌, ◌≤◌, Bool, true, false, ◌&&◌, ◌==◌, nat_le, nat_lt, List, [], ◌∷◌, length, if◌then◌else◌, refl, ◌∙◌, arith}
use Rattle.std.specs.List.{list_all}
use Rattle.std.proofs.lemmas.Bool.{and_from, and_parts, eqb-true}
use Rattle.std.proofs.lemmas.Bool.Decides.{nat_tests}
use Rattle.std.proofs.lemmas.List.Folds.{list_all-append}
use Rattle.nest_tree.specs.Tree.{Statement, Statements, do_loop, work, continue, done, next, Tree}
use Rattle.nest_tree.specs.WellFormed.{IsWellFormed, Scope, are_good_statements, is_good_head, is_good_statement, is_number_of, loops_in, loops_of, scope_of}
use Rattle.nest_tree.proofs.Cells.{well_formed_parts}
use Rattle.nest_walk.specs.Texts.{Placed, placed_in, placed_of}
use Rattle.owner_partition.specs.declared.cut.Mark.{Mark}
use Rattle.owner_partition.specs.Marks.{enters_outer}
use Rattle.sync_plan.specs.Shape.{is_doall, mark_of, own_loops, static_phases}

-- all are numbers of so many things
abbrev pub are_numbers : ℕ → List ℕ → Bool
are_numbers n around = list_all (is_number_of n) around

-- the loops round a static phase, and its own, are among so many
abbrev pub is_low : ℕ → Statement → List ℕ → Bool
is_low n (do_loop head body) around = is_number_of n head.number && are_numbers n around
is_low n (work w) around = are_numbers n around
is_low n (continue line) around = are_numbers n around

abbrev pub is_within : ℕ → Placed → Bool
is_within n p = is_low n p.what p.around

module _ (enters : ℕ → Bool) (scope : Scope) (n : ℕ) where
  mutual
    one_within : (around : List ℕ) (first : ℕ) (s : Statement) → 1 ≤ first → is_good_statement scope around first s ≡ true → first + loops_in s ≤ n + 1 → are_numbers n around ≡ true → list_all (is_within n) (placed_in enters around s) ≡ true
    one_within around first (do_loop head body) from good few within =
        let parts = and_parts (head.number == first && nat_lt (length around) 6 && is_good_head scope around head) (are_good_statements scope (head.number ∷ around) (first + 1) body) good in
        let number = (and_parts (head.number == first) (nat_lt (length around) 6) (and_parts (head.number == first && nat_lt (length around) 6) (is_good_head scope around head) parts.0).0).0 in
        let e = eqb-true head.number first number in
        let low : head.number ≤ n = omega (arith, e, few) in
        let some : 1 ≤ head.number = omega (arith, e, from) in
        let least : nat_le 1 head.number ≡ true = grind (arith, nat_tests) in
        let most : nat_le head.number n ≡ true = grind (arith, nat_tests) in
        let here : is_number_of n head.number ≡ true = and_from (nat_le 1 head.number) (nat_le head.number n) least most in
        let inside = all_within (head.number ∷ around) (first + 1) body (omega arith) parts.1 (omega (arith, few)) (and_from (is_number_of n head.number) (are_numbers n around) here within) in
        elim (enters head.number) as (λ b. list_all (is_within n) (if b then placed_of enters (head.number ∷ around) body else record { what = do_loop head body; around = around } ∷ []) ≡ true)
        [ true ↦ inside | false ↦ and_from (is_number_of n head.number && are_numbers n around) true (and_from (is_number_of n head.number) (are_numbers n around) here within) refl ]
    one_within around first (work w) from good few within = and_from (are_numbers n around) true within refl
    one_within around first (continue line) from good few within = refl

    all_within : (around : List ℕ) (first : ℕ) (ss : Statements) → 1 ≤ first → are_good_statements scope around first ss ≡ true → first + loops_of ss ≤ n + 1 → are_numbers n around ≡ true → list_all (is_within n) (placed_of enters around ss) ≡ true
    all_within around first done from good few within = refl
    all_within around first (next s rest) from good few within =
        let parts = and_parts (is_good_statement scope around first s) (are_good_statements scope around (first + loops_in s) rest) good in
        list_all-append (is_within n) (placed_in enters around s) (placed_of enters around rest)
        ∙ and_from (list_all (is_within n) (placed_in enters around s)) (list_all (is_within n) (placed_of enters around rest))
        (one_within around first s from parts.0 (omega (arith, few)) within) (all_within around (first + loops_in s) rest (omega (arith, from)) parts.1 (omega (arith, few)) within)

-- the loops that the phases of a well-formed text may name are the program's
pub text_within : (tree : Tree) (marks : List Mark) → IsWellFormed tree → list_all (is_within (loops_of tree.items)) (static_phases tree marks) ≡ true
text_within tree marks formed = all_within (enters_outer marks) (scope_of tree) (loops_of tree.items) [] 1 tree.items (omega arith) (well_formed_parts tree formed).statements (omega arith) refl

pub around_within : (n : ℕ) (s : Statement) (around : List ℕ) → is_low n s around ≡ true → are_numbers n around ≡ true
around_within n (do_loop head body) around h = (and_parts (is_number_of n head.number) (are_numbers n around) h).1
around_within n (work w) around h = h
around_within n (continue line) around h = h

pub own_within : (n : ℕ) (marks : List Mark) (s : Statement) (around : List ℕ) → is_low n s around ≡ true → are_numbers n (own_loops marks s around) ≡ true
own_within n marks (do_loop head body) around h = by (is_doall (mark_of marks head.number))
  where
    by : (b : Bool) → are_numbers n (if b then head.number ∷ around else around) ≡ true
    by true = h
    by false = (and_parts (is_number_of n head.number) (are_numbers n around) h).1
own_within n marks (work w) around h = h
own_within n marks (continue line) around h = h

-- and so none is past them
pub up_to : (n : ℕ) (around : List ℕ) → are_numbers n around ≡ true → list_all (λ l. nat_le l n) around ≡ true
up_to n [] h = refl
up_to n (l ∷ around) h =
    let parts = and_parts (is_number_of n l) (are_numbers n around) h in
    and_from (nat_le l n) (list_all (λ k. nat_le k n) around) (and_parts (nat_le 1 l) (nat_le l n) parts.0).1 (up_to n around parts.1)
