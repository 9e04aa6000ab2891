-- Loops are numbered in text order, so those round a statement have lower numbers than its own.
use Rattle.std.proofs.Common.{◌≡◌, ℕ, zero, suc, ◌+◌, ◌≤◌, ◌==◌, ℤ, Bool, true, false, ◌||◌, nat_le, nat_lt, List, [], ◌∷◌, if◌then◌else◌, Some, ⊎_elim, refl, ap, sym, ◌∙◌, arith}
use Rattle.std.specs.List.{list_all, list_any, slice_get}
use Rattle.std.proofs.lemmas.Bool.{and_from, and_parts, cases_Bool, eqb-true, le-leb, lt-ltb, ltb-true}
use Rattle.std.proofs.lemmas.List.Folds.{list_all-append}
use Rattle.nest_tree.specs.Form.{Form, is_form, reach_within}
use Rattle.nest_tree.specs.Tree.{Head, Statement, Statements, do_loop, work, continue, done, next, Tree}
use Rattle.nest_tree.specs.WellFormed.{IsWellFormed, Scope, are_good_statements, is_good_head, is_good_statement, is_number_of, loops_in, names_only, scope_of}
use Rattle.nest_walk.specs.Texts.{Placed, placed, placed_in, placed_of}
use Rattle.owner_partition.specs.OwnInstances.{names_no_inner}

-- the loops round a loop have lower numbers
abbrev are_lower : Statement → List ℕ → Bool
are_lower (do_loop head body) around = list_all (λ n. nat_lt n head.number) around
are_lower (work w) around = true
are_lower (continue line) around = true

abbrev is_in_order : Placed → Bool
is_in_order s = are_lower s.what s.around

below_more : (around : List ℕ) (n m : ℕ) → n ≤ m → list_all (λ k. nat_lt k n) around ≡ true → list_all (λ k. nat_lt k m) around ≡ true
below_more [] n m le h = refl
below_more (k ∷ around) n m le h =
    let parts = and_parts (nat_lt k n) (list_all (λ j. nat_lt j n) around) h in
    and_from _ _ (lt-ltb k m (omega (arith, ltb-true k n parts.0, le))) (below_more around n m le parts.1)

module _ (enters : ℕ → Bool) (scope : Scope) where
  mutual
    one_in_order : (around : List ℕ) (first : ℕ) (s : Statement) → is_good_statement scope around first s ≡ true → list_all (λ n. nat_lt n first) around ≡ true → list_all is_in_order (placed_in enters around s) ≡ true
    one_in_order around first (do_loop head body) good below =
        let a = and_parts _ (are_good_statements scope (head.number ∷ around) (first + 1) body) good in
        let b = and_parts _ (is_good_head scope around head) a.0 in
        let number = eqb-true head.number first (and_parts (head.number == first) _ b.0).0 in
        let here : list_all (λ n. nat_lt n head.number) around ≡ true = ap (λ m. list_all (λ n. nat_lt n m) around) number ∙ below in
        let inside = all_in_order (head.number ∷ around) (first + 1) body a.1 (and_from _ _ (lt-ltb head.number (first + 1) (omega (arith, number))) (below_more around first (first + 1) (omega arith) below)) in
        elim (enters head.number) as (λ b. list_all is_in_order (if b then placed_of enters (head.number ∷ around) body else record { what = do_loop head body; around = around } ∷ []) ≡ true) [
          | true ↦ inside
          | false ↦ and_from _ _ here refl
        ]
    one_in_order around first (work w) good below = refl
    one_in_order around first (continue line) good below = refl

    all_in_order : (around : List ℕ) (first : ℕ) (ss : Statements) → are_good_statements scope around first ss ≡ true → list_all (λ n. nat_lt n first) around ≡ true → list_all is_in_order (placed_of enters around ss) ≡ true
    all_in_order around first done good below = refl
    all_in_order around first (next s rest) good below =
        let both = and_parts (is_good_statement scope around first s) (are_good_statements scope around (first + loops_in s) rest) good in
        list_all-append is_in_order (placed_in enters around s) (placed_of enters around rest)
        ∙ and_from _ _ (one_in_order around first s both.0 below) (all_in_order around (first + loops_in s) rest both.1 (below_more around first (first + loops_in s) (omega arith) below))

placed_in_order : (tree : Tree) (enters : ℕ → Bool) → IsWellFormed tree → list_all is_in_order (placed tree enters) ≡ true
placed_in_order tree enters formed = all_in_order enters (scope_of tree) [] 1 tree.items (and_parts _ (are_good_statements (scope_of tree) [] 1 tree.items) formed).1 refl

at_place : (all : List Placed) (k : ℕ) (s : Placed) → list_all is_in_order all ≡ true → slice_get all k ≡ Some s → is_in_order s ≡ true
at_place [] k s h at = cc
at_place (p ∷ all) zero s h at =
    let parts = and_parts (is_in_order p) (list_all is_in_order all) h in
    let same : p ≡ s = cc in
    ap is_in_order (sym same) ∙ parts.0
at_place (p ∷ all) (suc k) s h at = at_place all k s (and_parts (is_in_order p) (list_all is_in_order all) h).1 at

-- what is among numbers that are at most another is at most it
among_most : (around : List ℕ) (n most : ℕ) → list_all (λ k. nat_le k most) around ≡ true → list_any (λ k. k == n) around ≡ true → nat_le n most ≡ true
among_most [] n most all any = cc
among_most (k ∷ around) n most all any =
    let parts = and_parts (nat_le k most) (list_all (λ j. nat_le j most) around) all in
    ⊎_elim (λ (h : (k == n) ≡ true). ap (λ m. nat_le m most) (sym (eqb-true k n h)) ∙ parts.0)
    (λ (h : (k == n) ≡ false). among_most around n most parts.1 (sym (ap (λ b. b || list_any (λ j. j == n) around) h) ∙ any)) (cases_Bool (k == n))

named_most : (pairs : List (ℕ × ℤ)) (around : List ℕ) (most : ℕ) → list_all (λ k. nat_le k most) around ≡ true → list_all (λ (p : ℕ × ℤ). list_any (λ k. k == p.0) around) pairs ≡ true → reach_within most pairs ≡ true
named_most [] around most all named = refl
named_most (p ∷ pairs) around most all named =
    let parts = and_parts (list_any (λ k. k == p.0) around) (list_all (λ (q : ℕ × ℤ). list_any (λ k. k == q.0) around) pairs) named in
    and_from _ _ (among_most around p.0 most all parts.0) (named_most pairs around most all parts.1)

lower_most : (around : List ℕ) (n : ℕ) → list_all (λ k. nat_lt k n) around ≡ true → list_all (λ k. nat_le k n) around ≡ true
lower_most [] n h = refl
lower_most (k ∷ around) n h =
    let parts = and_parts (nat_lt k n) (list_all (λ j. nat_lt j n) around) h in
    and_from _ _ (le-leb k n (omega (arith, ltb-true k n parts.0))) (lower_most around n parts.1)

-- a form of loops round a phase names none inside it
pub no_inner_of_round : (tree : Tree) (enters : ℕ → Bool) (k : ℕ) (s : Placed) (constants : ℕ) (f : Form) → IsWellFormed tree → slice_get (placed tree enters) k ≡ Some s → names_only constants s.around f ≡ true → names_no_inner s.what f ≡ true
no_inner_of_round tree enters k s constants f formed at named = by_kind s.what s.around (at_place (placed tree enters) k s (placed_in_order tree enters formed) at) named
  where
    by_kind : (what : Statement) (around : List ℕ) → is_in_order (record { what = what; around = around }) ≡ true → names_only constants around f ≡ true → names_no_inner what f ≡ true
    by_kind (do_loop head body) around order named =
        let a = and_parts _ (list_all (λ (p : ℕ × ℤ). is_number_of constants p.0) f.params) named in
        named_most f.loops around head.number (lower_most around head.number order) (and_parts (is_form f) _ a.0).1
    by_kind (work w) around order named = refl
    by_kind (continue line) around order named = refl

-- nor does one that also names the phase's own loop
pub no_inner_of_own : (tree : Tree) (enters : ℕ → Bool) (k : ℕ) (head : Head) (body : Statements) (around : List ℕ) (constants : ℕ) (f : Form) → IsWellFormed tree → slice_get (placed tree enters) k ≡ Some (record { what = do_loop head body; around = around }) →
    names_only constants (head.number ∷ around) f ≡ true → names_no_inner (do_loop head body) f ≡ true
no_inner_of_own tree enters k head body around constants f formed at named =
    let order = at_place (placed tree enters) k (record { what = do_loop head body; around = around }) (placed_in_order tree enters formed) at in
    let a = and_parts _ (list_all (λ (p : ℕ × ℤ). is_number_of constants p.0) f.params) named in
    named_most f.loops (head.number ∷ around) head.number (and_from _ _ (le-leb head.number head.number (omega arith)) (lower_most around head.number order)) (and_parts (is_form f) _ a.0).1
