use Rattle.std.proofs.Common.{◌≡◌, ◌<◌, Some, refl, sym, ◌∙◌, ap, subst, lit<, false, rules, replicate}
use Rattle.std.specs.Prelude.{slice_get}
use Rattle.nest_tree.specs.Tree.{Tree}
use Rattle.nest_model.specs.Ranges.{IsInRange}
use Rattle.sync_plan.specs.Fit.{IsFit}
use Rattle.sync_plan.specs.Ordered.{IsOrdered}
use Rattle.sync_plan.specs.declared.plan.Plan.{Plan}
use Rattle.spmd_model.specs.Timelines.{counter}
use Rattle.spmd_model.specs.Acts.{post, await}
use Rattle.spmd_model.specs.Protocols.{act_at}
use Rattle.shared_words.specs.Calls.{AwaitsNext, PostsNext}
use Rattle.shared_words.specs.Homes.{CellView, MainView, gone}
use Rattle.shared_words.specs.declared.roles.Stage.TheVariants.{NotOut}
use Rattle.house_tests.specs.StraightLine.{plan_with}
use Rattle.house_tests.proofs.StraightLine as lines
use Rattle.house_tests.proofs.StraightLine.{place, of_table}
use Rattle.house_tests.proofs.word_steps.a_counter_shows_what_was_posted.Goals as goal

pub vec-requires : goal.vec-requires
vec-requires g c = search rules

pub new-requires-clause-ranges : goal.new-requires-clause-ranges
new-requires-clause-ranges g c = subst IsInRange (sym c.in_ok-program.ensures) lines.ranges

pub new-requires-clause-fits : goal.new-requires-clause-fits
new-requires-clause-fits g c = subst (λ (x : Tree × Plan). IsFit x.0 x.1) (λ i. (sym c.in_ok-program.ensures i, sym plan_is i)) lines.joins_fit
  where
    plan_is : c.in_ok-plan.plan ≡ plan_with lines.joins
    plan_is = c.in_ok-plan.ensures ∙ ap plan_with (search rules)

pub new-requires-clause-ordered : goal.new-requires-clause-ordered
new-requires-clause-ordered g c = subst (λ (x : Tree × Plan). IsOrdered x.0 x.1) (λ i. (sym c.in_ok-program.ensures i, sym plan_is i)) (lines.ordered lines.joins)
  where
    plan_is : c.in_ok-plan.plan ≡ plan_with lines.joins
    plan_is = c.in_ok-plan.ensures ∙ ap plan_with (search rules)

pub seat_for-seat-requires-clause-own : goal.seat_for-seat-requires-clause-own
seat_for-seat-requires-clause-own g c = ap (λ (x : MainView). x.home) c.in_ok-cells.ensures.main

pub seat_for-seat-requires-clause-idle : goal.seat_for-seat-requires-clause-idle
seat_for-seat-requires-clause-idle g c = ap (λ (x : MainView). slice_get x.stages 1) c.in_ok-cells.ensures.main ∙ of_table (λ m. slice_get (replicate m.workers NotOut) 1 ≡ Some NotOut) lines.joins c.in_ok-cells.cells c.in_ok-program.program c.in_ok-plan.plan (c.in_ok-cells.ensures.given) c.in_ok-program.ensures (c.in_ok-plan.ensures ∙ ap plan_with (search rules)) refl

pub seat_for-seat-requires-clause-worker : goal.seat_for-seat-requires-clause-worker
seat_for-seat-requires-clause-worker g c = of_table (λ m. 1 < m.workers) lines.joins c.in_ok-cells.cells c.in_ok-program.program c.in_ok-plan.plan (c.in_ok-cells.ensures.given) c.in_ok-program.ensures (c.in_ok-plan.ensures ∙ ap plan_with (search rules)) (lit< tt)

pub post-requires-clause-own : goal.post-requires-clause-own
post-requires-clause-own g c = ap (λ (x : CellView). x.home) c.seat_for-seat.ensures.seat

pub post-requires-clause-next : goal.post-requires-clause-next
post-requires-clause-next g c = subst (λ (v : CellView). PostsNext v 0) (sym c.seat_for-seat.ensures.seat) (of_table (λ m. (act_at m 1 (place m 1 0) ≡ Some (post counter 0)) × (m.gathers 0 ≡ false)) lines.joins c.in_ok-cells.cells c.in_ok-program.program c.in_ok-plan.plan (c.in_ok-cells.ensures.given) c.in_ok-program.ensures (c.in_ok-plan.ensures ∙ ap plan_with (search rules)) lines.posts_first)

pub poll-requires-clause-own : goal.poll-requires-clause-own
poll-requires-clause-own g c = ap (λ (x : CellView). x.home) c.post.ensures.goes ∙ ap (λ (x : CellView). x.home) c.seat_for-seat.ensures.seat

pub poll-requires-clause-next : goal.poll-requires-clause-next
poll-requires-clause-next g c = subst (λ (v : CellView). AwaitsNext v 0 0) (sym (c.post.ensures.goes ∙ ap gone c.seat_for-seat.ensures.seat)) (of_table (λ m. (act_at m 1 (place m 1 1) ≡ Some (await counter 0 0)) × (m.gathers 0 ≡ false)) lines.joins c.in_ok-cells.cells c.in_ok-program.program c.in_ok-plan.plan (c.in_ok-cells.ensures.given) c.in_ok-program.ensures (c.in_ok-plan.ensures ∙ ap plan_with (search rules)) lines.awaits_first)

pub same-seat : goal.same-seat
same-seat g c = refl

pub post-requires-2-clause-own : goal.post-requires-2-clause-own
post-requires-2-clause-own g c = ap (λ (x : CellView). x.home) (c.in-Ready.ensures ∙ ap gone c.post.ensures.goes ∙ ap (λ v. gone (gone v)) c.seat_for-seat.ensures.seat)

pub post-requires-2-clause-next : goal.post-requires-2-clause-next
post-requires-2-clause-next g c = subst (λ (v : CellView). PostsNext v 1) (sym (c.in-Ready.ensures ∙ ap gone c.post.ensures.goes ∙ ap (λ v. gone (gone v)) c.seat_for-seat.ensures.seat)) (of_table (λ m. (act_at m 1 (place m 1 2) ≡ Some (post counter 1)) × (m.gathers 1 ≡ false)) lines.joins c.in_ok-cells.cells c.in_ok-program.program c.in_ok-plan.plan (c.in_ok-cells.ensures.given) c.in_ok-program.ensures (c.in_ok-plan.ensures ∙ ap plan_with (search rules)) lines.posts_next)

pub poll-found-requires-clause-own : goal.poll-found-requires-clause-own
poll-found-requires-clause-own g c = ap (λ (x : CellView). x.home) (c.post-2.ensures.goes ∙ ap gone (c.in-Ready.ensures ∙ ap gone c.post.ensures.goes ∙ ap (λ v. gone (gone v)) c.seat_for-seat.ensures.seat))

pub poll-found-requires-clause-next : goal.poll-found-requires-clause-next
poll-found-requires-clause-next g c = subst (λ (v : CellView). AwaitsNext v 0 1) (sym (c.post-2.ensures.goes ∙ ap gone (c.in-Ready.ensures ∙ ap gone c.post.ensures.goes ∙ ap (λ v. gone (gone v)) c.seat_for-seat.ensures.seat)))
    (of_table (λ m. (act_at m 1 (place m 1 3) ≡ Some (await counter 0 1)) × (m.gathers 1 ≡ false)) lines.joins c.in_ok-cells.cells c.in_ok-program.program c.in_ok-plan.plan (c.in_ok-cells.ensures.given) c.in_ok-program.ensures (c.in_ok-plan.ensures ∙ ap plan_with (search rules)) lines.awaits_next)

pub unreachable-assert_eq : goal.unreachable-assert_eq
unreachable-assert_eq g c = search rules
