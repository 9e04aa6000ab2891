-- A piece of work in the text: what stands for it in a list with one for each, that it is good, and its instance at a stop.
use Rattle.std.proofs.Common.{◌≡◌, ℕ, ◌+◌, ◌-◌, ◌≤◌, ◌^◌, ◌&&◌, nat_lt, Bool, true, false, Some, List, [], ◌∷◌, ◌++◌, length, length-append, if◌then◌else◌, refl, ap, sym, ◌∙◌, subst, arith}
use Rattle.std.specs.List.{AllZip, list_all, slice_get}
use Rattle.std.proofs.lemmas.Bool.{and_from, and_parts}
use Rattle.std.proofs.lemmas.List.Folds.{list_all-append}
use Rattle.std.proofs.lemmas.Slice.Zip.{AllZip-long}
use Rattle.nest_tree.specs.Tree.{Work, Statement, Statements, do_loop, work, continue, done, next, Tree, param_values}
use Rattle.nest_tree.specs.WellFormed.{IsWellFormed, Scope, are_good_statements, is_good_statement, is_good_work, is_number_of, loops_in as loop_count, loops_of, scope_of}
use Rattle.nest_tree.proofs.Cells.{well_formed_parts}
use Rattle.nest_tree.proofs.Good.{good_loop}
use Rattle.nest_tree.specs.View.{statement_of}
use Rattle.nest_model.specs.Instances.{Instance, is_executed, works_in}
use Rattle.nest_model.specs.Visits.{every, executed_at}
use Rattle.nest_walk.specs.Cursors.{is_reached, loops_in}
use Rattle.nest_walk.specs.Paths.{Round}
use Rattle.nest_walk.specs.Texts.{Placed, Standing, placed_in, placed_of, works}
use Rattle.nest_walk.specs.Walkable.{is_walkable}
use Rattle.nest_walk.specs.declared.cursor.Stop.{Stop}

AllZip-at : {A B : Type 0} (R : A → B → Type 0) (before : List A) (x : A) (behind : List A) (ys : List B) (y : B) → AllZip R (before ++ (x ∷ behind)) ys → slice_get ys (length before) ≡ Some y → R x y
AllZip-at R [] x behind [] y h e = absurd h
AllZip-at R [] x behind (z ∷ ys) y h e = let same : z ≡ y = cc in subst (R x) same h.0
AllZip-at R (b ∷ before) x behind [] y h e = absurd h
AllZip-at R (b ∷ before) x behind (z ∷ ys) y h e = AllZip-at R before x behind ys y h.1 e

-- what stands for a piece of work in a list that has one for each
pub standing-zip : {B : Type 0} (R : Placed → B → Type 0) (all : List Placed) (number : ℕ) (p : Placed) (ys : List B) (y : B) → Standing all number (p ∷ []) → AllZip R all ys → slice_get ys (number - 1) ≡ Some y → R p y
standing-zip R all number p ys y h zipped at =
    let place : length h.before ≡ number - 1 = omega (arith, h.number_is) in
    AllZip-at R h.before p h.behind ys y (subst (λ xs. AllZip R xs ys) h.all_is zipped) (ap (slice_get ys) place ∙ at)

pub standing-number : {B : Type 0} (R : Placed → B → Type 0) (all : List Placed) (number : ℕ) (p : Placed) (ys : List B) → Standing all number (p ∷ []) → AllZip R all ys → (1 ≤ number) × (number ≤ length ys)
standing-number R all number p ys h zipped =
    let long = AllZip-long R all ys zipped in
    let whole = ap length h.all_is ∙ length-append h.before (p ∷ h.behind) in
    (omega (arith, h.number_is), omega (arith, h.number_is, long, whole))

-- a place of the text is good
abbrev pub is_good_at : Scope → List ℕ → Statement → Bool
is_good_at scope around (do_loop head body) = true
is_good_at scope around (work w) = is_good_work scope around w
is_good_at scope around (continue line) = true

abbrev pub is_good_placed : Scope → Placed → Bool
is_good_placed scope p = is_good_at scope p.around p.what

mutual
  placed_in-good : (scope : Scope) (around : List ℕ) (first : ℕ) (s : Statement) → is_good_statement scope around first s ≡ true → list_all (is_good_placed scope) (placed_in every around s) ≡ true
  placed_in-good scope around first (do_loop head body) good = placed_of-good scope (head.number ∷ around) (first + 1) body (good_loop scope around first head body good).inside
  placed_in-good scope around first (work w) good = and_from (is_good_work scope around w) true good refl
  placed_in-good scope around first (continue line) good = refl

  placed_of-good : (scope : Scope) (around : List ℕ) (first : ℕ) (ss : Statements) → are_good_statements scope around first ss ≡ true → list_all (is_good_placed scope) (placed_of every around ss) ≡ true
  placed_of-good scope around first done good = refl
  placed_of-good scope around first (next s rest) good =
      let g = and_parts (is_good_statement scope around first s) (are_good_statements scope around (first + loop_count s) rest) good in
      list_all-append (is_good_placed scope) (placed_in every around s) (placed_of every around rest)
      ∙ and_from (list_all (is_good_placed scope) (placed_in every around s)) (list_all (is_good_placed scope) (placed_of every around rest)) (placed_in-good scope around first s g.0) (placed_of-good scope around (first + loop_count s) rest g.1)

pub standing-good : (tree : Tree) (number : ℕ) (p : Placed) → IsWellFormed tree → Standing (works tree) number (p ∷ []) → is_good_placed (scope_of tree) p ≡ true
standing-good tree number p formed h =
    let good = placed_of-good (scope_of tree) [] 1 tree.items (well_formed_parts tree formed).statements in
    let split = sym (ap (list_all (is_good_placed (scope_of tree))) h.all_is ∙ list_all-append (is_good_placed (scope_of tree)) h.before (p ∷ h.behind)) ∙ good in
    let behind = (and_parts (list_all (is_good_placed (scope_of tree)) h.before) (is_good_placed (scope_of tree) p && list_all (is_good_placed (scope_of tree)) h.behind) split).1 in
    (and_parts (is_good_placed (scope_of tree) p) (list_all (is_good_placed (scope_of tree)) h.behind) behind).0

-- the instance at a stop
pub record InstanceAt (tree : Tree) (rounds : List Round) (first : ℕ) (s : Statement) (i : Instance) : Type 0 where
  pub what : Work
  pub is : s ≡ work what
  pub instance_is : i ≡ record { statement = first; what = what; loops = loops_in tree rounds }

chosen : (b : Bool) (r i : Instance) → (if b then r ∷ [] else []) ≡ i ∷ [] → i ≡ r
chosen true r i h = cc
chosen false r i h = cc

pub instance_at : (tree : Tree) (rounds : List Round) (first : ℕ) (s : Statement) (i : Instance) → executed_at (param_values tree) first s (loops_in tree rounds) ≡ i ∷ [] → InstanceAt tree rounds first s i
instance_at tree rounds first (do_loop head body) i h = absurd (let no : [] ≡ i ∷ [] = h in cc)
instance_at tree rounds first (work w) i h = record {
  what = w;
  is = refl;
  instance_is = chosen (is_executed w (loops_in tree rounds) (param_values tree)) (record { statement = first; what = w; loops = loops_in tree rounds }) i h;
}
instance_at tree rounds first (continue line) i h = absurd (let no : [] ≡ i ∷ [] = h in cc)

-- the loops round a stop that is reached have numbers of the program
pub reached_numbered : (tree : Tree) (rounds : List Round) (s : Stop) → is_reached tree rounds s ≡ true → list_all (λ (r : Round). is_number_of (loops_of tree.items) r.number) rounds ≡ true
reached_numbered tree rounds s reached =
    let numbered = list_all (λ (r : Round). is_number_of (loops_of tree.items) r.number) rounds in
    let walkable = is_walkable (param_values tree) (length rounds) (statement_of s.item.now) (loops_in tree rounds) in
    let first = and_parts (numbered && walkable) (nat_lt (s.first + works_in (statement_of s.item.now)) (2 ^ 32)) reached in
    (and_parts numbered walkable first.0).0
