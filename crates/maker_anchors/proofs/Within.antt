-- The loops that the anchor of a static phase may name are the program's.
use Rattle.std.proofs.Common.{◌≡◌, ℕ, zero, suc, ◌≤◌, Bool, true, nat_le, List, [], ◌∷◌, Option, Some, None, subst, arith}
use Rattle.std.specs.Prelude.{slice_get, IfSome, IsTrue}
use Rattle.std.specs.List.{list_all}
use Rattle.std.proofs.lemmas.Bool.{and_parts}
use Rattle.std.proofs.lemmas.Bool.Decides.{nat_tests}
use Rattle.nest_tree.specs.Form.{is_given}
use Rattle.nest_tree.specs.Tree.{Tree}
use Rattle.nest_tree.specs.WellFormed.{IsWellFormed, is_number_of, loops_of, names_only}
use Rattle.nest_tree.proofs.Good.{form-given}
use Rattle.nest_walk.specs.Texts.{Placed}
use Rattle.owner_partition.specs.declared.anchor.Anchor.{Anchor}
use Rattle.owner_partition.specs.declared.cut.Mark.{Mark}
use Rattle.sync_plan.specs.Shape.{has_places, is_good_anchor, own_loops, static_phases}
use Rattle.sync_plan.proofs.NamedLoops.{are_numbers, around_within, is_within, own_within, text_within, up_to}
use Rattle.plan_shape.specs.Named.{with_own}

there : (test : Placed → Bool) (text : List Placed) (k : ℕ) (p : Placed) → list_all test text ≡ true → slice_get text k ≡ Some p → test p ≡ true
there test [] k p all at = absurd (cc)
there test (x ∷ text) zero p all at =
    let e : x ≡ p = cc in
    subst (λ y. test y ≡ true) e (and_parts (test x) (list_all test text) all).0
there test (x ∷ text) (suc k) p all at = there test text k p (and_parts (test x) (list_all test text) all).1 at

-- those that the phase with this place may name
pub allowed_within : (tree : Tree) (marks : List Mark) (k : ℕ) (p : Placed) → IsWellFormed tree → slice_get (static_phases tree marks) k ≡ Some p → are_numbers (loops_of tree.items) (own_loops marks p.what p.around) ≡ true
allowed_within tree marks k p formed at =
    own_within (loops_of tree.items) marks p.what p.around (there (is_within (loops_of tree.items)) (static_phases tree marks) k p (text_within tree marks formed) at)

-- the Outer loops round it
pub round_within : (tree : Tree) (marks : List Mark) (k : ℕ) (p : Placed) → IsWellFormed tree → slice_get (static_phases tree marks) k ≡ Some p → are_numbers (loops_of tree.items) p.around ≡ true
round_within tree marks k p formed at =
    around_within (loops_of tree.items) p.what p.around (there (is_within (loops_of tree.items)) (static_phases tree marks) k p (text_within tree marks formed) at)

-- a good anchor names what the program has
pub good_given : (n constants : ℕ) (loops : List ℕ) (a : Anchor) → are_numbers n loops ≡ true → is_good_anchor constants loops a ≡ true → IsTrue (is_given a.form n constants)
good_given n constants loops a within good =
    form-given n constants loops a.form (up_to n loops within) (and_parts (names_only constants loops a.form) (has_places a.dist) good).0

-- the phase's own loop, where it has one
pub own_numbered : (n : ℕ) (own : Option ℕ) (around : List ℕ) → are_numbers n (with_own own around) ≡ true → IfSome own (λ k. (1 ≤ k) × (k ≤ n))
own_numbered n None around h = tt
own_numbered n (Some k) around h =
    let parts = and_parts (nat_le 1 k) (nat_le k n) (and_parts (is_number_of n k) (are_numbers n around) h).0 in
    let least = parts.0 in
    let most = parts.1 in
    (grind (arith, nat_tests), grind (arith, nat_tests))
