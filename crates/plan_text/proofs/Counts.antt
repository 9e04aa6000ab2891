-- Plans with no more loops and phases than a text counts: those that have a text, and those that fit and have no rows of conditions.
use Rattle.std.proofs.Common.{arith, ◌≡◌, ◌∙◌, ◌<◌, ◌≤◌, ◌+◌, ◌^◌, ℕ, Bool, true, false, refl, ap, sym, List, [], length, if◌then◌else◌}
use Rattle.std.specs.List.{list_all}
use Rattle.std.proofs.lemmas.Bool.{and_parts}
use Rattle.std.proofs.lemmas.Bool.Decides.{nat_tests}
use Rattle.nest_tree.proofs.Good.{loops-few}
use Rattle.nest_tree.specs.Tree.{Statement, Statements, do_loop, work, continue, done, next, Tree}
use Rattle.nest_tree.specs.WellFormed.{IsWellFormed, statement_count, statements_in}
use Rattle.nest_model.specs.Visits.{stops_in, stops_of}
use Rattle.nest_walk.proofs.Walks.{few_statements}
use Rattle.owner_partition.proofs.Sites.{placed_counts}
use Rattle.owner_partition.specs.Marks.{enters_outer}
use Rattle.owner_partition.specs.declared.cut.Mark.{Mark}
use Rattle.plan_text.proofs.Written.{zipped-length}
use Rattle.plan_text.specs.PlanText.{HasCounts, HasText, are_conditions_shown, cut_loops, is_32, is_loop_shown, is_phase_shown, zipped}
use Rattle.sync_plan.proofs.Fits.{fit_parts}
use Rattle.sync_plan.specs.Fit.{IsFit}
use Rattle.sync_plan.specs.Shape.{static_phases}
use Rattle.sync_plan.specs.declared.plan.Conditions.TheVariants.{Values}
use Rattle.sync_plan.specs.declared.plan.Plan.{Plan}
use Rattle.sync_plan.specs.declared.plan.Version.{Version}
use Rattle.sync_plan.specs.declared.plan.Version.TheVariants.{One, Two, Three, Four, Five}

-- a plan that has a text has the counts that its text shows
pub counts_of_text : (plan : Plan) → HasText plan → HasCounts plan
counts_of_text plan h = record {
  conditions = h.conditions;
  lists = h.lists;
  loops = ap is_32 (sym (zipped-length plan.cut.marks plan.cut.privates h.lists)) ∙ (and_parts (is_32 (length (cut_loops plan.cut))) (list_all (is_loop_shown plan.version) (cut_loops plan.cut)) h.loops).0;
  pairs = h.pairs;
  phases = ap is_32 (sym (zipped-length plan.kinds plan.anchors h.pairs)) ∙ (and_parts (is_32 (length (zipped plan.kinds plan.anchors))) (list_all is_phase_shown (zipped plan.kinds plan.anchors)) h.phases).0;
}

below : (n : ℕ) → n < 2 ^ 32 → is_32 n ≡ true
below n h = grind (arith, nat_tests)

-- there are at most as many phases as statements
mutual
  stops-few : (enters : ℕ → Bool) (s : Statement) → stops_in enters s ≤ statements_in s
  stops-few enters (do_loop head body) =
      let all = stops_of-few enters body in
      elim (enters head.number) as (λ b. (if b then stops_of enters body else 1) ≤ 1 + statement_count body) [ true ↦ omega (arith, all) | false ↦ omega arith ]
  stops-few enters (work w) = omega arith
  stops-few enters (continue line) = omega arith

  stops_of-few : (enters : ℕ → Bool) (ss : Statements) → stops_of enters ss ≤ statement_count ss
  stops_of-few enters done = omega arith
  stops_of-few enters (next s rest) = omega (arith, stops-few enters s, stops_of-few enters rest)

phases_few : (tree : Tree) (marks : List Mark) → IsWellFormed tree → length (static_phases tree marks) < 2 ^ 32
phases_few tree marks formed = omega (arith, placed_counts (enters_outer marks) [] tree.items, stops_of-few (enters_outer marks) tree.items, few_statements tree formed)

-- values of the named constants are shown in each version
pub values-shown : (version : Version) → are_conditions_shown version Values ≡ true
values-shown One = refl
values-shown Two = refl
values-shown Three = refl
values-shown Four = refl
values-shown Five = refl

pub counts_of_fit : (tree : Tree) (plan : Plan) → IsWellFormed tree → plan.conditions ≡ Values → IsFit tree plan → HasCounts plan
counts_of_fit tree plan formed values fits =
    let parts = fit_parts tree plan fits in
    record {
      conditions = ap (are_conditions_shown plan.version) values ∙ values-shown plan.version;
      lists = parts.marks ∙ sym parts.privates;
      loops = below (length plan.cut.marks) (omega (arith, parts.marks, loops-few tree formed));
      pairs = parts.kinds ∙ sym parts.anchors;
      phases = below (length plan.kinds) (omega (arith, parts.kinds, phases_few tree plan.cut.marks formed));
    }
