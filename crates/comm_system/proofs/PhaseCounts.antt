-- A program has fewer static phases than statements.
use Rattle.std.proofs.Common.{◌≡◌, ℕ, ◌+◌, ◌<◌, ◌≤◌, nat_lt, ◌&&◌, Bool, true, false, List, [], ◌∷◌, ◌++◌, length, map, if◌then◌else◌, ap, sym, ◌∙◌, arith, length-append}
use Rattle.std.specs.List.{list_all}
use Rattle.std.proofs.lemmas.Bool.{and_parts, ltb-true}
use Rattle.std.proofs.lemmas.List.{length-map}
use Rattle.nest_tree.specs.Tree.{Head, Statement, Statements, do_loop, work, continue, done, next, Tree}
use Rattle.nest_tree.specs.WellFormed.{IsWellFormed, are_good_statements, is_good_constant, is_good_declaration, most_statements, scope_of, statement_count, statements_in}
use Rattle.owner_partition.specs.declared.cut.Mark.{Mark}
use Rattle.owner_partition.specs.Marks.{enters_outer}
use Rattle.conflict_rules.specs.References.{phases_among, phases_in, phases_of}
use Rattle.comm_system.specs.PhaseViews.{phase_seen}
use Rattle.comm_system.specs.declared.phase.Phase.{Phase}

module _ (enters : ℕ → Bool) where
  mutual
    count_in : (outer : List Head) (s : Statement) → length (phases_in enters outer s) ≤ statements_in s
    count_in outer (do_loop head body) = by (enters head.number) (count_among (outer ++ head ∷ []) body)
      where
        by : (b : Bool) → length (phases_among enters (outer ++ head ∷ []) body) ≤ statement_count body →
            length (if b then phases_among enters (outer ++ head ∷ []) body else record { what = do_loop head body; outer = outer } ∷ []) ≤ 1 + statement_count body
        by true inner = omega (arith, inner)
        by false inner = omega arith
    count_in outer (work w) = omega arith
    count_in outer (continue line) = omega arith

    count_among : (outer : List Head) (ss : Statements) → length (phases_among enters outer ss) ≤ statement_count ss
    count_among outer done = omega arith
    count_among outer (next s rest) =
        let here = count_in outer s in
        let later = count_among outer rest in
        let both = length-append (phases_in enters outer s) (phases_among enters outer rest) in
        omega (arith, here, later, both)

pub few_phases : (tree : Tree) (marks : List Mark) (found : List Phase) → IsWellFormed tree → map phase_seen found ≡ phases_of tree marks → length found < 400
few_phases tree marks found formed is =
    let first = and_parts (list_all is_good_constant tree.params && list_all is_good_declaration tree.variables && nat_lt (statement_count tree.items) most_statements) (are_good_statements (scope_of tree) [] 1 tree.items) formed in
    let few : statement_count tree.items < 400 = ltb-true (statement_count tree.items) 400 (and_parts (list_all is_good_constant tree.params && list_all is_good_declaration tree.variables) (nat_lt (statement_count tree.items) most_statements) first.0).1 in
    let count = count_among (enters_outer marks) [] tree.items in
    let same : length found ≡ length (phases_of tree marks) = sym (length-map found phase_seen) ∙ ap length is in
    omega (arith, few, count, same)
