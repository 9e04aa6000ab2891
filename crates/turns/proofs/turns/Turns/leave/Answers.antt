use Rattle.std.proofs.Common.{◌∷◌, false, ap, sym, subst, ◌∙◌, arith}
use Rattle.std.specs.Prelude.{slice_index_or}
use Rattle.turns.specs.CountersLeft.{counters_left, counters_plan, counters_processor, counters_tree}
use Rattle.turns.specs.Turns.{runs}
use Rattle.turns.specs.TurnsLeft.{AreSound, standing, turns_left, turns_plan, turns_processor, turns_tree}
use Rattle.turns.specs.declared.turns.Turns.{Turns}
use Rattle.turns.proofs.KnownOwn.{behind_among, none_at, nothing_marked, unwatched_none}
use Rattle.turns.proofs.Shown.{worked_sound}
use Rattle.turns.proofs.Steps.{work_passed}
use Rattle.turns.proofs.turns.Turns.leave.Goals as goal

pub returns-clause-sound : goal.returns-clause-sound
returns-clause-sound c =
    let s = c.args.self.now in
    let sound = c.requires.sound in
    let next = c.requires.next.2.next in
    let i = next.0.instance in
    let marks = c.mark.ensures.marked next.0 in
    let same = ap (λ (x : Turns). x.counters) c.mark.ensures.same in
    let passed = c.pass.ensures.passed in
    subst (λ (x : Turns). AreSound (record x { counters = c.pass.new.self })) (sym c.mark.ensures.same)
    (worked_sound s c.pass.new.self c.mark.new.self.pending i passed.0 next.1 sound c.pass.ensures.sound (c.pass.ensures.program ∙ ap counters_tree same) (c.pass.ensures.plan ∙ ap counters_plan same) (c.pass.ensures.processor ∙ ap counters_processor same)
    next.2 (sym (ap counters_left same) ∙ passed.1)
    (λ k is. behind_among (turns_tree s) (turns_plan s) (turns_processor s) s.place (omega (arith, sound.own.few.privates)) s.pending s.barriers k i (omega arith) sound.own.among (sym (ap (λ bs. slice_index_or bs k false) marks) ∙ is))
    (λ w. marks ∙ nothing_marked (turns_tree s) (turns_plan s) (standing s) i (none_at (turns_tree s) (turns_plan s) s.place (unwatched_none s.style (turns_plan s) (sym sound.watched ∙ w))) ∙ (sound.unwatched w).none))

pub returns-clause-passed : goal.returns-clause-passed
returns-clause-passed c =
    let s = c.args.self.now in
    let shows = c.requires.next.2 in
    let next = shows.next in
    let passed = c.pass.ensures.passed in
    let here = sym (ap (λ (x : Turns). counters_left x.counters) c.mark.ensures.same) ∙ passed.1 in (
      runs s.place next.0.instance,
      work_passed s c.pass.new.self c.mark.new.self.pending next.0.instance passed.0 next.1 shows.rounds next.2 here (c.mark.ensures.marked next.0)
          ∙ sym (ap (λ (x : Turns). runs s.place next.0.instance ∷ turns_left (record x { counters = c.pass.new.self })) c.mark.ensures.same),
    )
