-- The first access of a private scalar in its loop: a store inside the loops that its path names.
use Rattle.std.proofs.Common.{◌≡◌, ℕ, ◌==◌, ◌&&◌, not, Bool, true, false, true≢false, cond, Some, List, [], ◌∷◌, ◌++◌, refl, ap, sym, ◌∙◌, subst}
use Rattle.std.specs.Prelude.{find, is_none}
use Rattle.std.specs.List.{AllByRecursion, flat_map}
use Rattle.std.proofs.lemmas.Bool.{and_parts}
use Rattle.list_lemmas.proofs.Each.{all_split}
use Rattle.nest_tree.specs.Tree.{Head, Work, assign, print, Statements, do_loop}
use Rattle.nest_tree.specs.WellFormed.{Scope}
use Rattle.nest_walk.specs.Tables.{element}
use Rattle.nest_rows.specs.Nested.{Nested, nested_among}
use Rattle.nest_rows.proofs.GoodNesting.{IsGoodNested}
use Rattle.own_scalars.specs.OwnScalars.{has_access, is_of, is_plain_store, loads}
use Rattle.conflict_rules.specs.References.{Reference, reference_of, references_in, variable_of}
use Rattle.comm_system.specs.Paths.{first_access}
use Rattle.comm_laws.proofs.FirstStores.{path_among, store_first, stored_rank}
use Rattle.comm_laws.proofs.GoodReferences.{stored_good}

-- the first that passes
first_found : {X : Type 0} (p : X → Bool) (before : List X) (x : X) (after : List X) → AllByRecursion (λ y. p y ≡ false) before → p x ≡ true → find p (before ++ x ∷ after) ≡ Some x
first_found p [] x after none is = ap (λ b. cond b (Some x) (find p after)) is
first_found p (y ∷ before) x after none is = ap (λ b. cond b (Some y) (find p (before ++ x ∷ after))) none.0 ∙ first_found p before x after none.1 is

-- a private scalar's first access in the loop is a store inside its path
pub record IsStored (outer : List Head) (head : Head) (body : Statements) (v : ℕ) : Type 0 where
  pub store : Reference
  pub around : store.around ≡ (outer ++ head ∷ []) ++ path_among v body
  pub is : first_access (record { what = do_loop head body; outer = outer }) v ≡ Some store

module _ (scope : Scope) (outer : List Head) (head : Head) (body : Statements) (goods : AllByRecursion (IsGoodNested scope) (nested_among (outer ++ head ∷ []) body)) where
  pub stored_there : (v : ℕ) (w : Work) → is_plain_store v w ≡ true → (before after : List Nested) → AllByRecursion (λ (n : Nested). has_access v n.what ≡ false) before → nested_among (outer ++ head ∷ []) body ≡ before ++ record { what = w; around = (outer ++ head ∷ []) ++ path_among v body } ∷ after → IsStored outer head body v
  stored_there v (print p) plain before after away split = absurd (true≢false (sym plain))
  stored_there v (assign s) plain before after away split =
      let n : Nested = record { what = assign s; around = (outer ++ head ∷ []) ++ path_among v body } in
      let good = all_split (IsGoodNested scope) before (n ∷ after) (subst (AllByRecursion (IsGoodNested scope)) split goods) in
      let scalar = and_parts (is_of v s.target) (not (loads v s.value)) (and_parts (is_of v s.target && not (loads v s.value)) (is_none s.guard) plain).0 in
      let rank = (stored_rank scope good.1.0.loops v s.target (stored_good scope good.1.0.loops (assign s) good.1.0.good).0 scalar.0).0 in
      let f = store_first scope v rank before after s ((outer ++ head ∷ []) ++ path_among v body) good.0 good.1.0 away plain in
      let store : Reference = reference_of n true (element s.target) in
      let test : Reference → Bool = λ r. variable_of r.what == v in
      record {
        store = store;
        around = refl;
        is = ap (λ ns. find test (flat_map references_in ns)) split ∙ ap (find test) f.split ∙ first_found test f.before store f.after f.away f.variable;
      }
