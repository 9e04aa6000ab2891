-- The loops of static phases have good own scalars.
use Rattle.std.proofs.Common.{◌≡◌, ℕ, ◌==◌, ◌&&◌, Bool, true, false, List, [], ◌∷◌, length, refl, ◌∙◌, arith}
use Rattle.std.specs.Prelude.{Contains, if◌then◌else◌}
use Rattle.std.specs.List.{list_all}
use Rattle.std.proofs.lemmas.Bool.{and_from, and_parts, eqb-true}
use Rattle.std.proofs.lemmas.List.Folds.{list_all-append}
use Rattle.nest_tree.specs.Tree.{Statement, Statements, do_loop, work, continue, done, next}
use Rattle.nest_walk.specs.Texts.{Placed, placed_in, placed_of}
use Rattle.owner_partition.specs.Cuts.{Cutting, privates_of}
use Rattle.owner_partition.specs.Marks.{mark_of}
use Rattle.sync_plan.specs.declared.plan.Version.{Version}
use Rattle.sync_plan.specs.Shape.{are_good_privates, has_good_privates, has_good_sums, have_good_privates, have_good_sums, is_good_sum}

module _ (version : Version) (cut : Cutting) (enters : ℕ → Bool) where
  mutual
    own_in : (around : List ℕ) (s : Statement) → has_good_sums version cut.marks s ≡ true → has_good_privates version cut s ≡ true → list_all (λ (p : Placed). has_good_sums version cut.marks p.what && has_good_privates version cut p.what) (placed_in enters around s) ≡ true
    own_in around (do_loop head body) sums privates =
        let mark = mark_of cut.marks head.number in
        let vs = privates_of cut.privates head.number in
        let s = and_parts (is_good_sum version mark body) (have_good_sums version cut.marks body) sums in
        let p = and_parts (are_good_privates version mark body vs) (have_good_privates version cut body) privates in
        elim (enters head.number) as (λ b. list_all (λ (p : Placed). has_good_sums version cut.marks p.what && has_good_privates version cut p.what) (if b then placed_of enters (head.number ∷ around) body else record { what = do_loop head body; around = around } ∷ []) ≡ true)
        [ true ↦ own_among (head.number ∷ around) body s.1 p.1 | false ↦ and_from _ true (and_from _ _ sums privates) refl ]
    own_in around (work w) sums privates = refl
    own_in around (continue line) sums privates = refl

    pub own_among : (around : List ℕ) (ss : Statements) → have_good_sums version cut.marks ss ≡ true → have_good_privates version cut ss ≡ true → list_all (λ (p : Placed). has_good_sums version cut.marks p.what && has_good_privates version cut p.what) (placed_of enters around ss) ≡ true
    own_among around done sums privates = refl
    own_among around (next s rest) sums privates =
        let test = λ (p : Placed). has_good_sums version cut.marks p.what && has_good_privates version cut p.what in
        let these = and_parts (has_good_sums version cut.marks s) (have_good_sums version cut.marks rest) sums in
        let those = and_parts (has_good_privates version cut s) (have_good_privates version cut rest) privates in
        list_all-append test (placed_in enters around s) (placed_of enters around rest)
        ∙ and_from (list_all test (placed_in enters around s)) (list_all test (placed_of enters around rest)) (own_in around s these.0 those.0) (own_among around rest these.1 those.1)

pub no_scalars : (vs : List ℕ) → (length vs == 0) ≡ true → vs ≡ []
no_scalars [] e = refl
no_scalars (v ∷ vs) e = absurd (cc (eqb-true (length (v ∷ vs)) 0 e))

pub nothing_in : (u : ℕ) → Contains {X = ℕ} [] u → ⊥
nothing_in u (k, lt, e) = omega (arith, lt)
