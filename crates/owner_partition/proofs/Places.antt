-- The intervals of the loops at a static phase, as the code finds them.
use Rattle.std.proofs.Common.{◌≡◌, ℕ, ◌+◌, ◌-◌, ◌<◌, ◌≤◌, ℤ, Bool, true, false, nat_lt, nat_le, List, [], ◌∷◌, drop, get_or, length, map, IsTrue, if◌then◌else◌, refl, ap, sym, ◌∙◌, arith}
use Rattle.std.proofs.lemmas.Bool.{and_from, and_parts}
use Rattle.std.proofs.lemmas.Bool.Decides.{nat_tests}
use Rattle.std.proofs.lemmas.List.{length-map}
use Rattle.nest_tree.specs.declared.tree.Item.{Item}
use Rattle.nest_tree.specs.declared.tree.Parameter.{Parameter}
use Rattle.nest_tree.specs.declared.program.Program.{Program}
use Rattle.nest_tree.specs.Form.{Form, is_given, reach_within}
use Rattle.nest_tree.specs.Limits.{no_ends}
use Rattle.nest_tree.specs.Tree.{Statement, Statements, do_loop, work, continue, done, next, Tree, param_values}
use Rattle.nest_tree.specs.View.{constant_of, statement_of, statements_from, tree_of}
use Rattle.nest_tree.specs.WellFormed.{IsWellFormed, loops_of, statement_count, statements_in}
use Rattle.nest_tree.proofs.FirstLimits.{no_ends-length, values_of_constants}
use Rattle.nest_tree.proofs.Good.{loops-few}
use Rattle.nest_tree.proofs.Rows.{statements_more}
use Rattle.nest_model.specs.Visits.{stops_in, stops_of}
use Rattle.nest_walk.specs.Walks.{enters_but}
use Rattle.nest_walk.proofs.Walks.{few_statements}
use Rattle.owner_partition.specs.declared.cut.Mark.{Mark}
use Rattle.owner_partition.specs.Marks.{is_closed}
use Rattle.owner_partition.specs.Placement.{ends_among, ends_in, phase_ends}

-- a phase that stands in the statement that a search comes to
pub found_here : (params : List ℤ) (enters : ℕ → Bool) (ends : List (ℤ × ℤ)) (items : List Item) (i : ℕ) (item : Item) (left : ℕ) → i < length items → item ≡ get_or items i item → left < stops_in enters (statement_of item) →
    ends_among params enters ends (statements_from (drop i items)) left ≡ ends_in params enters ends (statement_of item) left
found_here params enters ends items i item left lt is inside =
    let within : nat_lt left (stops_in enters (statement_of item)) ≡ true = grind (arith, nat_tests, inside) in
    let rest = statements_from (drop (i + 1) items) in
    ap (λ ss. ends_among params enters ends ss left) (statements_more items i item lt is)
    ∙ ap (λ b. if b then ends_in params enters ends (statement_of item) left else ends_among params enters ends rest (left - stops_in enters (statement_of item))) within

-- no more phases than statements
mutual
  stops_in-most : (enters : ℕ → Bool) (s : Statement) → stops_in enters s ≤ statements_in s
  stops_in-most enters (do_loop head body) =
      let all = stops_of-most enters body in
      elim (enters head.number) as (λ b. (if b then stops_of enters body else 1) ≤ 1 + statement_count body) [ true ↦ omega (arith, all) | false ↦ omega arith ]
  stops_in-most enters (work w) = omega arith
  stops_in-most enters (continue line) = omega arith

  stops_of-most : (enters : ℕ → Bool) (ss : Statements) → stops_of enters ss ≤ statement_count ss
  stops_of-most enters done = omega arith
  stops_of-most enters (next s rest) = omega (arith, stops_in-most enters s, stops_of-most enters rest)

pub few_phases : (tree : Tree) (enters : ℕ → Bool) → IsWellFormed tree → stops_of enters tree.items < 400
few_phases tree enters formed = omega (arith, stops_of-most enters tree.items, few_statements tree formed)

-- what a form names is among more things
reach_further : (least most : ℕ) (pairs : List (ℕ × ℤ)) → least ≤ most → IsTrue (reach_within least pairs) → IsTrue (reach_within most pairs)
reach_further least most [] le h = refl
reach_further least most (p ∷ pairs) le h =
    let parts = and_parts (nat_le p.0 least) (reach_within least pairs) h in
    let here : IsTrue (nat_le p.0 most) = grind (arith, nat_tests, le, parts.0) in
    and_from (nat_le p.0 most) (reach_within most pairs) here (reach_further least most pairs le parts.1)

-- an anchor's form names loops with intervals
pub form_given : (p : Program) (f : Form) (ends : List (ℤ × ℤ)) (constants : List Parameter) → IsWellFormed (tree_of p) → length ends ≡ length no_ends → constants ≡ p.params.items →
    IsTrue (is_given f (loops_of (tree_of p).items) (length (tree_of p).params)) → IsTrue (is_given f (length ends) (length constants))
form_given p f ends constants formed long params h =
    let few = loops-few (tree_of p) formed in
    let parts = and_parts (reach_within (loops_of (tree_of p).items) f.loops) (reach_within (length (tree_of p).params) f.params) h in
    let many : length constants ≡ length (tree_of p).params = ap length params ∙ sym (length-map p.params.items constant_of) in
    and_from (reach_within (length ends) f.loops) (reach_within (length constants) f.params)
    (reach_further (loops_of (tree_of p).items) (length ends) f.loops (omega (arith, few, long, no_ends-length)) parts.0)
    (ap (λ n. reach_within n f.params) many ∙ parts.1)

-- the same as the code reads a program
pub values : (p : Program) (constants : List Parameter) → constants ≡ p.params.items → map (λ (q : Parameter). q.value) constants ≡ param_values (tree_of p)
values p constants params = ap (map (λ (q : Parameter). q.value)) params ∙ sym (values_of_constants p.params.items)

pub read_ends : (p : Program) (marks : List Mark) (closed : List Bool) (ends : List (ℤ × ℤ)) (constants : List Parameter) (items : List Item) (place phase : ℕ) →
    closed ≡ map is_closed marks → ends ≡ no_ends → constants ≡ p.params.items → items ≡ p.items.items → place ≡ phase - 1 →
    ends_among (map (λ (q : Parameter). q.value) constants) (enters_but closed) ends (statements_from items) place ≡ phase_ends (tree_of p) marks (phase - 1)
read_ends p marks closed ends constants items place phase cut none params statements at =
    let here = param_values (tree_of p) in
    ap (λ vs. ends_among vs (enters_but closed) ends (statements_from items) place) (values p constants params)
    ∙ ap (λ bs. ends_among here (enters_but bs) ends (statements_from items) place) cut
    ∙ ap (λ es. ends_among here (enters_but (map is_closed marks)) es (statements_from items) place) none
    ∙ ap (λ xs. ends_among here (enters_but (map is_closed marks)) no_ends (statements_from xs) place) statements
    ∙ ap (λ n. ends_among here (enters_but (map is_closed marks)) no_ends (tree_of p).items n) at
