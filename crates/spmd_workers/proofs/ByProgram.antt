-- The deeds of an instance on a processor's cells, and as the program has them.
use Rattle.std.proofs.Common.{◌≡◌, ℕ, ◌<◌, nat_lt, ℤ, true, List, [], ◌∷◌, ◌++◌, map, refl, sym, ◌∙◌, ap, append-nil}
use Rattle.std.specs.List.{All, flat_map, list_all}
use Rattle.std.proofs.lemmas.Bool.{and_parts, ltb-true}
use Rattle.std.proofs.lemmas.List.{map-append}
use Rattle.std.proofs.lemmas.List.Elements.{All-cons, All-nil}
use Rattle.nest_tree.specs.Layout.{cell_count}
use Rattle.nest_tree.specs.Tree.{Tree}
use Rattle.nest_model.specs.Accesses.{cells_of}
use Rattle.nest_model.specs.Instances.{Instance}
use Rattle.nest_model.specs.Ranges.{is_instance_inside}
use Rattle.sync_plan.specs.Own.{own_cell, own_loop, own_of}
use Rattle.sync_plan.specs.declared.plan.Plan.{Plan}
use Rattle.own_cells.specs.OwnCells.{AreFew}
use Rattle.spmd_model.specs.Deeds.{Deed, loading, storing, printing, instance_deeds}
use Rattle.spmd_model.specs.MachineDeeds.{own_deeds}
use Rattle.fork_join.specs.SeenDeeds.{phase_deed, shared_for}
use Rattle.fork_join.proofs.SeenDeeds.{next_load, next_print, next_store, visit_instances}
use Rattle.spmd_workers.specs.Walks.{is_instance_there}

-- ---- an instance's cells are the program's

pub instance_inside : (tree : Tree) (i : Instance) → is_instance_there tree i ≡ true → is_instance_inside tree i ≡ true
instance_inside tree i all = (and_parts (is_instance_inside tree i) (list_all (λ c. nat_lt c (cell_count tree)) (cells_of tree i)) all).0

all_below : (cells : ℕ) (cs : List ℕ) → list_all (λ c. nat_lt c cells) cs ≡ true → All (λ c. c < cells) cs
all_below cells [] all = All-nil (λ c. c < cells)
all_below cells (c ∷ cs) all = let parts = and_parts (nat_lt c cells) (list_all (λ d. nat_lt d cells) cs) all in All-cons (λ d. d < cells) c cs (ltb-true c cells parts.0) (all_below cells cs parts.1)

one_there : (tree : Tree) (i : Instance) → is_instance_there tree i ≡ true → All (λ j. All (λ c. c < cell_count tree) (cells_of tree j)) (i ∷ [])
one_there tree i all =
    let cells = (and_parts (is_instance_inside tree i) (list_all (λ c. nat_lt c (cell_count tree)) (cells_of tree i)) all).1 in
    All-cons (λ j. All (λ c. c < cell_count tree) (cells_of tree j)) i [] (all_below (cell_count tree) (cells_of tree i) cells) (All-nil (λ j. All (λ c. c < cell_count tree) (cells_of tree j)))

-- one of a list of one, with nothing behind it
alone : (f : Deed → Deed) (xs ys : List Deed) → map f ((xs ++ []) ++ []) ≡ (ys ++ []) ++ map f [] → map f xs ≡ ys
alone f xs ys is = sym (ap (map f) (append-nil (xs ++ []) ∙ append-nil xs)) ∙ is ∙ append-nil (ys ++ []) ∙ append-nil ys

-- ---- in a phase

module _ (tree : Tree) (plan : Plan) (place p : ℕ) where
  abbrev there : ℕ → ℕ
  there c = own_cell (own_of tree plan place) p c

  pub own_instance : (i : Instance) → AreFew tree (own_loop tree plan place) → is_instance_there tree i ≡ true → map (phase_deed tree plan place p) (own_deeds tree (own_of tree plan place) p i) ≡ instance_deeds tree i
  own_instance i few all = alone (phase_deed tree plan place p) (own_deeds tree (own_of tree plan place) p i) (instance_deeds tree i) (visit_instances tree plan place p few (i ∷ []) [] (one_there tree i all))

  pub own_load : (c : ℕ) (d : Deed) → phase_deed tree plan place p d ≡ loading c → (d ≡ loading (there c)) × (c < cell_count tree)
  own_load c d same =
      let (more, is, below) = next_load there (shared_for tree plan place p) (cell_count tree) (d ∷ []) c [] (ap (λ x. x ∷ []) same) in
      let both : d ∷ [] ≡ loading (there c) ∷ more = is in
      (cc, below)

  pub own_store : (c : ℕ) (value : List ℤ → ℤ) (d : Deed) → phase_deed tree plan place p d ≡ storing c value → (d ≡ storing (there c) value) × (c < cell_count tree)
  own_store c value d same =
      let (more, is, below) = next_store there (shared_for tree plan place p) (cell_count tree) (d ∷ []) c value [] (ap (λ x. x ∷ []) same) in
      let both : d ∷ [] ≡ storing (there c) value ∷ more = is in
      (cc, below)

  pub own_print : (line : List ℤ → List ℕ) (d : Deed) → phase_deed tree plan place p d ≡ printing line → d ≡ printing line
  own_print line d same =
      let (more, is) = next_print there (shared_for tree plan place p) (cell_count tree) (d ∷ []) line [] (ap (λ x. x ∷ []) same) in
      let both : d ∷ [] ≡ printing line ∷ more = is in
      cc

-- ---- lists of deeds

-- what is first of a list that a map gives
pub first_of : {X Y : Type 0} (f : X → Y) (xs : List X) (y : Y) (ys : List Y) → map f xs ≡ y ∷ ys → (x : X) × (rest : List X) × (xs ≡ x ∷ rest) × (f x ≡ y) × (map f rest ≡ ys)
first_of f [] y ys is = absurd (let clash : [] ≡ y ∷ ys = is in cc)
first_of f (x ∷ xs) y ys is =
    let both : f x ∷ map f xs ≡ y ∷ ys = is in
    let head : f x ≡ y = cc in
    let tail : map f xs ≡ ys = cc in
    (x, xs, refl, head, tail)

-- the instances of a phase together
pub all_instances : (f : Deed → Deed) (tree : Tree) (plan : Plan) (place p : ℕ) (is : List Instance) → ((i : Instance) → is_instance_there tree i ≡ true → map f (own_deeds tree (own_of tree plan place) p i) ≡ instance_deeds tree i) → list_all (is_instance_there tree) is ≡ true
    → map f (flat_map (own_deeds tree (own_of tree plan place) p) is) ≡ flat_map (instance_deeds tree) is
all_instances f tree plan place p [] each all = refl
all_instances f tree plan place p (i ∷ is) each all =
    let parts = and_parts (is_instance_there tree i) (list_all (is_instance_there tree) is) all in
    map-append f (own_deeds tree (own_of tree plan place) p i) (flat_map (own_deeds tree (own_of tree plan place) p) is) ∙ (λ k. each i parts.0 k ++ all_instances f tree plan place p is each parts.1 k)
