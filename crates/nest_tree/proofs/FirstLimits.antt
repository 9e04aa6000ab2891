-- Which limit is the first.
use Rattle.std.proofs.Common.{◌≡◌, ℕ, zero, suc, pos, get_or, replicate, ◌≤◌, ◌<◌, ◌^◌, ℤ, true, false, nat_lt, List, [], ◌∷◌, length, map, IsTrue, Option, Some, None, if◌then◌else◌, refl, ap, sym, ◌∙◌, arith}
use Rattle.std.specs.Option.{option_or}
use Rattle.std.proofs.lemmas.Bool.Decides.{nat_tests}
use Rattle.std.proofs.lemmas.List.{length-map}
use Rattle.nest_tree.specs.declared.limits.Limit.{Limit}
use Rattle.nest_tree.specs.declared.limits.Limit.TheVariants.{TooMuchWork, TooManyCells}
use Rattle.nest_tree.specs.declared.tree.Item.{Item}
use Rattle.nest_tree.specs.declared.tree.Parameter.{Parameter}
use Rattle.nest_tree.specs.declared.tree.Variable.{Variable}
use Rattle.nest_tree.specs.declared.program.Program.{Program}
use Rattle.nest_tree.specs.Given.{are_all_given}
use Rattle.nest_tree.specs.Layout.{cell_count}
use Rattle.nest_tree.specs.Limits.{IsWithinLimits, capped, first_limit, most_cells, most_work, no_ends, too_many_cells, too_much_work, too_wide, wide_of, work_estimate, work_of}
use Rattle.nest_tree.specs.Tree.{Tree, Constant, param_values}
use Rattle.nest_tree.specs.Nodes.{tree_with}
use Rattle.nest_tree.specs.View.{constant_of, statements_from, tree_of}
use Rattle.nest_tree.specs.WellFormed.{IsWellFormed}
use Rattle.nest_tree.proofs.Good.{all-given, loops-few}

-- the values of a program's named constants
pub values_of_constants : (ps : List Parameter) → map (λ (c : Constant). c.value) (map constant_of ps) ≡ map (λ (p : Parameter). p.value) ps
values_of_constants [] = refl
values_of_constants (p ∷ ps) = ap (λ vs. p.value ∷ vs) (values_of_constants ps)

-- a test of a total at its number with a cap above the most that passes
over : {X : Type 0} (most total shown : ℕ) (make : ℕ → X) → most < 2 ^ 64 → shown ≡ capped total → most < shown → Some (make shown) ≡ (if nat_lt most total then Some (make (capped total)) else None)
over most total shown make small is h =
    let past : nat_lt most total ≡ true = grind (arith, nat_tests) in
    ap (λ n. Some (make n)) is ∙ sym (ap (λ b. if b then Some (make (capped total)) else None) past)

under : {X : Type 0} (most total shown : ℕ) (make : ℕ → X) → most < 2 ^ 64 → shown ≡ capped total → shown ≤ most → None ≡ (if nat_lt most total then Some (make (capped total)) else None)
under most total shown make small is h =
    let within : nat_lt most total ≡ false = grind (arith, nat_tests) in
    sym (ap (λ b. if b then Some (make (capped total)) else None) within)

pub at_replicate : {X : Type 0} (n k : ℕ) (d : X) → get_or (replicate n d) k d ≡ d
at_replicate zero k d = refl
at_replicate (suc n) zero d = refl
at_replicate (suc n) (suc k) d = at_replicate n k d

-- 400 loops have no interval yet
pub no_ends-length : length no_ends ≡ 400
unfolding no_ends
no_ends-length = refl

pub no_ends-at : (n : ℕ) → get_or no_ends n (pos 0, pos 0) ≡ (pos 0, pos 0)
unfolding no_ends
no_ends-at n = at_replicate 400 n (pos 0, pos 0)

module _ (tree : Tree) where
  pub limit-wide : (limit : Limit) → Some limit ≡ too_wide tree → Some limit ≡ first_limit tree
  limit-wide limit wide = ap (λ o. option_or o (option_or (too_much_work tree) (too_many_cells tree))) wide

  module _ (shown : ℕ) (fine : None ≡ too_wide tree) (worked : shown ≡ capped (work_estimate tree)) where
    past_forms : first_limit tree ≡ option_or (too_much_work tree) (too_many_cells tree)
    past_forms = sym (ap (λ o. option_or o (option_or (too_much_work tree) (too_many_cells tree))) fine)

    pub limit-work : most_work < shown → Some (TooMuchWork shown) ≡ first_limit tree
    limit-work h =
        ap (λ o. option_or o (too_many_cells tree)) (over most_work (work_estimate tree) shown TooMuchWork (omega arith) worked h) ∙ sym past_forms

    module _ (cells : ℕ) (small : shown ≤ most_work) (counted : cells ≡ capped (cell_count tree)) where
      past_work : first_limit tree ≡ too_many_cells tree
      past_work = past_forms ∙ sym (ap (λ o. option_or o (too_many_cells tree)) (under most_work (work_estimate tree) shown TooMuchWork (omega arith) worked small))

      pub limit-cells : most_cells < cells → Some (TooManyCells cells) ≡ first_limit tree
      limit-cells h = over most_cells (cell_count tree) cells TooManyCells (omega arith) counted h ∙ sym past_work

      pub limit-none : cells ≤ most_cells → None ≡ first_limit tree
      limit-none h = under most_cells (cell_count tree) cells TooManyCells (omega arith) counted h ∙ sym past_work

-- what a program within its limits keeps
pub record Kept (tree : Tree) : Type 0 where
  pub forms : too_wide tree ≡ None
  pub most_worked : work_estimate tree ≤ most_work
  pub most_counted : cell_count tree ≤ most_cells

pub neither : {X : Type 0} (a b : Option X) → option_or a b ≡ None → (a ≡ None) × (b ≡ None)
neither None b h = (refl, h)
neither (Some x) b h = cc

at_most : {X : Type 0} (most total : ℕ) (x : X) → (if nat_lt most total then Some x else None) ≡ None → total ≤ most
at_most most total x h =
    elim (nat_lt most total) as (λ b. nat_lt most total ≡ b → (if b then Some x else None) ≡ None → total ≤ most) [
      | true ↦ λ e k. absurd (let no : Some x ≡ None = k in cc)
      | false ↦ λ e k. grind (arith, nat_tests)
    ] refl h

pub kept : (tree : Tree) → IsWithinLimits tree → Kept tree
kept tree h =
    let first = neither (too_wide tree) (option_or (too_much_work tree) (too_many_cells tree)) h in
    let second = neither (too_much_work tree) (too_many_cells tree) first.1 in record {
      forms = first.0;
      most_worked = at_most most_work (work_estimate tree) (TooMuchWork (capped (work_estimate tree))) second.0;
      most_counted = at_most most_cells (cell_count tree) (TooManyCells (capped (cell_count tree))) second.1;
    }

-- the same as the code reads the parts of a program
module _ (stated : List Item) (known : List Parameter) (declared : List Variable) (ends : List (ℤ × ℤ)) (constants : List Parameter) (items : List Item) (none : ends ≡ no_ends) (params : constants ≡ known) (statements : items ≡ stated) where
  values : map (λ (q : Parameter). q.value) constants ≡ param_values (tree_with stated known declared)
  values = ap (map (λ (q : Parameter). q.value)) params ∙ sym (values_of_constants known)

  pub parts-wide : wide_of (map (λ (q : Parameter). q.value) constants) ends (statements_from items) ≡ too_wide (tree_with stated known declared)
  parts-wide =
      ap (λ vs. wide_of vs ends (statements_from items)) values ∙ ap (λ es. wide_of (param_values (tree_with stated known declared)) es (statements_from items)) none ∙ ap (λ xs. wide_of (param_values (tree_with stated known declared)) no_ends (statements_from xs)) statements

  pub parts-work : work_of (map (λ (q : Parameter). q.value) constants) ends 1 (statements_from items) ≡ work_estimate (tree_with stated known declared)
  parts-work =
      ap (λ vs. work_of vs ends 1 (statements_from items)) values ∙ ap (λ es. work_of (param_values (tree_with stated known declared)) es 1 (statements_from items)) none ∙ ap (λ xs. work_of (param_values (tree_with stated known declared)) no_ends 1 (statements_from xs)) statements

  pub parts-given : IsWellFormed (tree_with stated known declared) → IsTrue (are_all_given (length ends) (length constants) (statements_from items))
  parts-given w =
      let long : length ends ≡ 400 = ap length none ∙ no_ends-length in
      let many : length constants ≡ length (tree_with stated known declared).params = ap length params ∙ sym (length-map known constant_of) in
      let given = all-given (tree_with stated known declared) 400 w (omega (arith, loops-few (tree_with stated known declared) w)) in
      ap (λ n. are_all_given n (length constants) (statements_from items)) long ∙ ap (λ n. are_all_given 400 n (statements_from items)) many ∙ ap (λ xs. are_all_given 400 (length (tree_with stated known declared).params) (statements_from xs)) statements ∙ given

-- the same of a program
module _ (p : Program) (ends : List (ℤ × ℤ)) (constants : List Parameter) (items : List Item) (none : ends ≡ no_ends) (params : constants ≡ p.params.items) (statements : items ≡ p.items.items) where
  pub read-wide : wide_of (map (λ (q : Parameter). q.value) constants) ends (statements_from items) ≡ too_wide (tree_of p)
  read-wide = parts-wide p.items.items p.params.items p.variables.items ends constants items none params statements

  pub read-given : IsWellFormed (tree_of p) → IsTrue (are_all_given (length ends) (length constants) (statements_from items))
  read-given = parts-given p.items.items p.params.items p.variables.items ends constants items none params statements
