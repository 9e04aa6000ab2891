-- What is known of a good access.
use Rattle.std.proofs.Common.{◌≡◌, ℕ, zero, suc, ◌-◌, ◌==◌, ◌&&◌, nat_le, true, List, [], ◌∷◌, length, map, get_or, refl, ◌∙◌, arith}
use Rattle.std.specs.List.{list_all, list_any}
use Rattle.std.proofs.lemmas.Bool.{and_from, and_parts, eqb-true, leb-true}
use Rattle.std.proofs.lemmas.List.{length-map}
use Rattle.nest_tree.specs.Form.{Form, is_form}
use Rattle.nest_tree.specs.Layout.{bounds_at}
use Rattle.nest_tree.specs.Tree.{Declaration, Tree}
use Rattle.nest_tree.specs.WellFormed.{Scope, is_good_access, is_number_of, names_only, rank, rank_of, scope_of}
use Rattle.nest_tree.specs.declared.tree.Access.{Access}
use Rattle.nest_walk.specs.Places.{IsThere}

ranks : (vs : List Declaration) (n : ℕ) → get_or (map rank vs) n 0 ≡ length (bounds_at vs n)
ranks [] n = refl
ranks (v ∷ vs) zero = refl
ranks (v ∷ vs) (suc n) = ranks vs n

-- its variable is there, with as many dimensions
pub good_access-there : (tree : Tree) (around : List ℕ) (a : Access) → is_good_access (scope_of tree) around a ≡ true → IsThere tree a
good_access-there tree around a good =
    let scope = scope_of tree in
    let all = and_parts (is_number_of (length scope.ranks) a.variable && length a.subscripts == rank_of scope a.variable) (list_all (names_only scope.constants around) a.subscripts) good in
    let two = and_parts (is_number_of (length scope.ranks) a.variable) (length a.subscripts == rank_of scope a.variable) all.0 in
    let number = and_parts (nat_le 1 a.variable) (nat_le a.variable (length scope.ranks)) two.0 in
    let count = length-map tree.variables rank in
    record {
      low = leb-true 1 a.variable number.0;
      high = omega (arith, leb-true a.variable (length scope.ranks) number.1, count);
      as_many = eqb-true (length a.subscripts) (rank_of scope a.variable) two.1 ∙ ranks tree.variables (a.variable - 1);
    }

forms_only : (constants : ℕ) (around : List ℕ) (fs : List Form) → list_all (names_only constants around) fs ≡ true → list_all is_form fs ≡ true
forms_only constants around [] h = refl
forms_only constants around (f ∷ fs) h =
    let parts = and_parts (names_only constants around f) (list_all (names_only constants around) fs) h in
    let first = and_parts (is_form f && list_all (λ p. list_any (λ l. l == p.0) around) f.loops) (list_all (λ p. is_number_of constants p.0) f.params) parts.0 in
    let form = and_parts (is_form f) (list_all (λ p. list_any (λ l. l == p.0) around) f.loops) first.0 in
    and_from (is_form f) (list_all is_form fs) form.0 (forms_only constants around fs parts.1)

-- its subscripts are forms
pub good_access-forms : (scope : Scope) (around : List ℕ) (a : Access) → is_good_access scope around a ≡ true → list_all is_form a.subscripts ≡ true
good_access-forms scope around a good =
    forms_only scope.constants around a.subscripts
    (and_parts (is_number_of (length scope.ranks) a.variable && length a.subscripts == rank_of scope a.variable) (list_all (names_only scope.constants around) a.subscripts) good).1
