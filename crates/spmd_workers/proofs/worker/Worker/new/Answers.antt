use Rattle.std.proofs.Common.{◌≡◌, ◌≤◌, pos, replicate, false, Some, refl, sym, ◌∙◌, ap, subst, arith}
use Rattle.std.specs.List.{range_with_len}
use Rattle.std.specs.Prelude.{length}
use Rattle.owner_partition.specs.Phases.{phases}
use Rattle.instance_runs.specs.Executors.{executor_room}
use Rattle.instance_runs.specs.Rooms.{longest_output}
use Rattle.turns.specs.CounterTurns.{counter_turns}
use Rattle.turns.specs.Turns.{first_standing, turns_by}
use Rattle.turns.specs.TurnsLeft.{beginnings_left, turns_left}
use Rattle.shared_words.specs.Homes.{plan_given, style_given, tree_given}
use Rattle.spmd_workers.specs.Held.{AreHeld}
use Rattle.spmd_workers.specs.Places.{plan_at, tree_at, turns_at}
use Rattle.spmd_workers.proofs.Starts.{first_ready}
use Rattle.spmd_workers.proofs.worker.Worker.new.Goals.{else-processor-eq0, then-processor-eq0}
use Rattle.spmd_workers.proofs.worker.Worker.new.Goals as goal

pub invariant_of-result : goal.invariant_of-result
invariant_of-result c =
    let seat = c.args.seat in
    let h = seat.home in
    let held : AreHeld h = subst AreHeld (sym c.requires.own) c.laws_of.ensures in
    let who = c.processor-processor.ensures in
    let its = c.tables.inside in
    let given : h.given ≡ Some (its.program.now, (its.plan.now, its.style)) = ap (λ g. g.given) c.requires.own ∙ c.requires.given ∙ sym c.tables.view_is in
    let turns = c.new-turns.ensures in
    let x = c.in-Ok.executor in
    let made = c.in-Ok.ensures in
    let tree = sym (ap tree_given given) in
    let plan = sym (ap plan_given given) in
    let style = sym (ap style_given given) in
    let all : turns_left c.new-turns.result ≡ turns_at h seat.processor = turns.turns ∙ (λ i. turns_by (style i) (tree i) (plan i) (who.processor i) first_standing (counter_turns (tree i) (plan i) (who.processor i) 1 (phases (tree i) (plan i).cut.marks))) in
    let begins : beginnings_left c.new-turns.result ≡ range_with_len 1 (length (phases (tree_at h) (plan_at h).cut.marks)) = turns.begins ∙ (λ i. range_with_len 1 (length (phases (tree i) (plan i).cut.marks))) in
    let wide : seat.processor ≡ 0 → longest_output (tree_at h) ≤ executor_room x = λ first.
    elim c.if-processor-eq0.branch [
      | then-processor-eq0 w ↦ let long = ap longest_output tree in let all = c.tables.invariant.long in let is = w.room-is in let made = made.room in omega (arith, long, all, is, made)
      | else-processor-eq0 w ↦ let same = who.processor in absurd (omega (arith, w.if-processor-eq0, same, first))
    ] in
    let below = who.worker in
    first_ready (record { seat = seat; turns = c.new-turns.result; own = replicate 32 (pos 0); executor = x; answered = 0; patience = c.new-2.result; ended = false }) held c.requires.first (omega (arith, below, who.processor)) turns.sound all begins (turns.program ∙ tree) (turns.plan ∙ plan) (turns.processor ∙ who.processor) (turns.style ∙ style) refl made.can (made.program ∙ tree) made.output wide refl refl
