use Rattle.std.proofs.Common.{◌+◌, ◌∷◌, sym, ap, ◌∙◌, subst}
use Rattle.turns.specs.TurnsLeft.{turns_place}
use Rattle.spmd_model.specs.Deeds.{printing}
use Rattle.spmd_workers.specs.Held.{AreHeld}
use Rattle.fork_join.specs.SeenDeeds.{phase_deed}
use Rattle.spmd_workers.specs.Places.{left_seen, place_of, plan_at, printed_behind, registers_behind, tree_at}
use Rattle.spmd_workers.proofs.ByProgram.{own_print}
use Rattle.spmd_workers.proofs.Accesses.{prints}
use Rattle.spmd_workers.proofs.SharedSteps.{stays_on}
use Rattle.spmd_workers.proofs.deeds.PhaseDeedsDeeds.print.Goals as goal

pub returns-clause-left : goal.returns-clause-left
returns-clause-left g c =
    let d = c.args.self.now in
    let v = d.seat.now in
    let n = place_of v d.turns.now.value + d.done.done in
    let held : AreHeld v.home = subst AreHeld (sym d.same_table) c.laws_of.ensures in
    let (line, rest, is) = c.requires in
    let r = prints (phase_deed (tree_at v.home) (plan_at v.home) (turns_place d.turns.now.value) v.processor) d.from.now.value v held d.worker d.own.now n line rest is (own_print (tree_at v.home) (plan_at v.home) (turns_place d.turns.now.value) v.processor line) in
    let one = c.further-self.ensures in (
      line,
      is ∙ ap (λ ds. printing line ∷ ds) (sym (stays_on (λ u k. left_seen d.turns.now.value d.from.now.value u d.own.now k) v d.turns.now.value d.done.done c.further-self.result.done one ∙ r.left)),
      stays_on printed_behind v d.turns.now.value d.done.done c.further-self.result.done one ∙ r.printed,
    )

pub returns-clause-registers : goal.returns-clause-registers
returns-clause-registers g c =
    let d = c.args.self.now in
    let v = d.seat.now in
    let n = place_of v d.turns.now.value + d.done.done in
    let held : AreHeld v.home = subst AreHeld (sym d.same_table) c.laws_of.ensures in
    let (line, rest, is) = c.requires in
    let r = prints (phase_deed (tree_at v.home) (plan_at v.home) (turns_place d.turns.now.value) v.processor) d.from.now.value v held d.worker d.own.now n line rest is (own_print (tree_at v.home) (plan_at v.home) (turns_place d.turns.now.value) v.processor line) in
    let one = c.further-self.ensures in
    stays_on registers_behind v d.turns.now.value d.done.done c.further-self.result.done one ∙ r.registers
