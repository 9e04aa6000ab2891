use Rattle.std.proofs.Common.{◌≡◌, ◌<◌, Some, refl, sym, ◌∙◌, ap, subst, lit<, true, rules, replicate}
use Rattle.std.specs.Prelude.{slice_get, slice_set}
use Rattle.nest_tree.specs.Tree.{Tree}
use Rattle.nest_model.specs.Ranges.{IsInRange}
use Rattle.sync_plan.specs.Fit.{IsFit}
use Rattle.sync_plan.specs.Ordered.{IsOrdered}
use Rattle.sync_plan.specs.declared.plan.Plan.{Plan}
use Rattle.spmd_model.specs.Timelines.{counter}
use Rattle.spmd_model.specs.Acts.{post, await}
use Rattle.spmd_model.specs.Protocols.{act_at}
use Rattle.shared_words.specs.Calls.{ArrivesNext, GathersNext, with_stage}
use Rattle.shared_words.specs.Homes.{CellView, MainView, gone}
use Rattle.shared_words.specs.declared.roles.Stage.TheVariants.{NotOut, Out}
use Rattle.house_tests.specs.StraightLine.{barriers, plan_with}
use Rattle.house_tests.proofs.StraightLine as lines
use Rattle.house_tests.proofs.StraightLine.{place, of_table}
use Rattle.house_tests.proofs.word_steps.all_arrivals_are_awaited.Goals as goal

pub vec-requires : goal.vec-requires
vec-requires g c = search rules

pub new-requires-clause-ranges : goal.new-requires-clause-ranges
new-requires-clause-ranges g c = subst IsInRange (sym c.in_ok-program.ensures) lines.ranges

pub new-requires-clause-fits : goal.new-requires-clause-fits
new-requires-clause-fits g c = subst (λ (x : Tree × Plan). IsFit x.0 x.1) (λ i. (sym c.in_ok-program.ensures i, sym plan_is i)) lines.barriers_fit
  where
    plan_is : c.in_ok-plan.plan ≡ plan_with barriers
    plan_is = c.in_ok-plan.ensures ∙ ap plan_with (search rules)

pub new-requires-clause-ordered : goal.new-requires-clause-ordered
new-requires-clause-ordered g c = subst (λ (x : Tree × Plan). IsOrdered x.0 x.1) (λ i. (sym c.in_ok-program.ensures i, sym plan_is i)) (lines.ordered barriers)
  where
    plan_is : c.in_ok-plan.plan ≡ plan_with barriers
    plan_is = c.in_ok-plan.ensures ∙ ap plan_with (search rules)

pub seat_for-first-requires-clause-own : goal.seat_for-first-requires-clause-own
seat_for-first-requires-clause-own g c = ap (λ (x : MainView). x.home) c.in_ok-cells.ensures.main

pub seat_for-first-requires-clause-idle : goal.seat_for-first-requires-clause-idle
seat_for-first-requires-clause-idle g c = ap (λ (x : MainView). slice_get x.stages 0) c.in_ok-cells.ensures.main ∙ of_table (λ m. slice_get (replicate m.workers NotOut) 0 ≡ Some NotOut) barriers c.in_ok-cells.cells c.in_ok-program.program c.in_ok-plan.plan (c.in_ok-cells.ensures.given) c.in_ok-program.ensures (c.in_ok-plan.ensures ∙ ap plan_with (search rules)) refl

pub seat_for-first-requires-clause-worker : goal.seat_for-first-requires-clause-worker
seat_for-first-requires-clause-worker g c = of_table (λ m. 0 < m.workers) barriers c.in_ok-cells.cells c.in_ok-program.program c.in_ok-plan.plan (c.in_ok-cells.ensures.given) c.in_ok-program.ensures (c.in_ok-plan.ensures ∙ ap plan_with (search rules)) (lit< tt)

pub seat_for-second-requires-clause-own : goal.seat_for-second-requires-clause-own
seat_for-second-requires-clause-own g c = ap (λ (x : MainView). x.home) (c.seat_for-first.ensures.main ∙ ap (with_stage 0 Out) c.in_ok-cells.ensures.main)

pub seat_for-second-requires-clause-idle : goal.seat_for-second-requires-clause-idle
seat_for-second-requires-clause-idle g c = ap (λ (x : MainView). slice_get x.stages 1) (c.seat_for-first.ensures.main ∙ ap (with_stage 0 Out) c.in_ok-cells.ensures.main)
    ∙ of_table (λ m. slice_get (slice_set (replicate m.workers NotOut) 0 Out) 1 ≡ Some NotOut) barriers c.in_ok-cells.cells c.in_ok-program.program c.in_ok-plan.plan (c.in_ok-cells.ensures.given) c.in_ok-program.ensures (c.in_ok-plan.ensures ∙ ap plan_with (search rules)) refl

pub seat_for-second-requires-clause-worker : goal.seat_for-second-requires-clause-worker
seat_for-second-requires-clause-worker g c = of_table (λ m. 1 < m.workers) barriers c.in_ok-cells.cells c.in_ok-program.program c.in_ok-plan.plan (c.in_ok-cells.ensures.given) c.in_ok-program.ensures (c.in_ok-plan.ensures ∙ ap plan_with (search rules)) (lit< tt)

pub arrive-requires-clause-own : goal.arrive-requires-clause-own
arrive-requires-clause-own g c = ap (λ (x : CellView). x.home) c.seat_for-second.ensures.seat

pub arrive-requires-clause-next : goal.arrive-requires-clause-next
arrive-requires-clause-next g c = subst (λ (v : CellView). ArrivesNext v 0) (sym c.seat_for-second.ensures.seat) (of_table (λ m. (act_at m 1 (place m 1 0) ≡ Some (post counter 0)) × (m.gathers 0 ≡ true)) barriers c.in_ok-cells.cells c.in_ok-program.program c.in_ok-plan.plan (c.in_ok-cells.ensures.given) c.in_ok-program.ensures (c.in_ok-plan.ensures ∙ ap plan_with (search rules)) (lines.arrives 1 (lit< tt)))

pub poll_arrivals-requires-clause-own : goal.poll_arrivals-requires-clause-own
poll_arrivals-requires-clause-own g c = ap (λ (x : CellView). x.home) (c.arrive.ensures.goes ∙ ap gone c.seat_for-second.ensures.seat)

pub poll_arrivals-requires-clause-next : goal.poll_arrivals-requires-clause-next
poll_arrivals-requires-clause-next g c = subst (λ (v : CellView). GathersNext v 0) (sym (c.arrive.ensures.goes ∙ ap gone c.seat_for-second.ensures.seat))
    (let there = of_table (λ m. (act_at m 1 (place m 1 1) ≡ Some (await counter 0 0)) × (m.gathers 0 ≡ true)) barriers c.in_ok-cells.cells c.in_ok-program.program c.in_ok-plan.plan (c.in_ok-cells.ensures.given) c.in_ok-program.ensures (c.in_ok-plan.ensures ∙ ap plan_with (search rules)) lines.gathers in (0, there.0, there.1))

pub unreachable-assert_eq : goal.unreachable-assert_eq
unreachable-assert_eq g c = search rules

pub same-first : goal.same-first
same-first g c = refl

pub arrive-requires-2-clause-own : goal.arrive-requires-2-clause-own
arrive-requires-2-clause-own g c = ap (λ (x : CellView). x.home) c.seat_for-first.ensures.seat

pub arrive-requires-2-clause-next : goal.arrive-requires-2-clause-next
arrive-requires-2-clause-next g c = subst (λ (v : CellView). ArrivesNext v 0) (sym c.seat_for-first.ensures.seat) (of_table (λ m. (act_at m 0 (place m 0 0) ≡ Some (post counter 0)) × (m.gathers 0 ≡ true)) barriers c.in_ok-cells.cells c.in_ok-program.program c.in_ok-plan.plan (c.in_ok-cells.ensures.given) c.in_ok-program.ensures (c.in_ok-plan.ensures ∙ ap plan_with (search rules)) (lines.arrives 0 (lit< tt)))

pub same-second : goal.same-second
same-second g c = refl

pub poll_arrivals-found-requires-clause-own : goal.poll_arrivals-found-requires-clause-own
poll_arrivals-found-requires-clause-own g c = ap (λ (x : CellView). x.home) c.in-NotYet.ensures.tells.1 ∙ ap (λ (x : CellView). x.home) (c.arrive.ensures.goes ∙ ap gone c.seat_for-second.ensures.seat)

pub poll_arrivals-found-requires-clause-next : goal.poll_arrivals-found-requires-clause-next
poll_arrivals-found-requires-clause-next g c = subst (λ (v : CellView). GathersNext v 0) (sym c.in-NotYet.ensures.tells.1)
    (subst (λ (v : CellView). GathersNext v 0) (sym (c.arrive.ensures.goes ∙ ap gone c.seat_for-second.ensures.seat))
    (let there = of_table (λ m. (act_at m 1 (place m 1 1) ≡ Some (await counter 0 0)) × (m.gathers 0 ≡ true)) barriers c.in_ok-cells.cells c.in_ok-program.program c.in_ok-plan.plan (c.in_ok-cells.ensures.given) c.in_ok-program.ensures (c.in_ok-plan.ensures ∙ ap plan_with (search rules)) lines.gathers in (0, there.0, there.1)))

pub unreachable-assert_eq-2 : goal.unreachable-assert_eq-2
unreachable-assert_eq-2 g c = search rules
