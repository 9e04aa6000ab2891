use Rattle.std.proofs.Common.{◌+◌, ◌∷◌, ◌∙◌, sym, ap, drop}
use Rattle.nest_tree.specs.View.{tree_of}
use Rattle.spmd_model.specs.Deeds.{printing}
use Rattle.turns.specs.TurnsLeft.{turns_place}
use Rattle.fork_join.specs.Joins.{all_deeds}
use Rattle.fork_join.proofs.OwnSeeing.{phase_left, print_next}
use Rattle.fork_join.proofs.Walking.{its_phase, its_printed}
use Rattle.fork_join.proofs.phase_overlay.PhaseOverlayDeeds.print.Goals as goal

pub print_line-requires : goal.print_line-requires
print_line-requires g c =
    let d = c.args.self.now in
    let o = d.overlay.now in
    let tree = tree_of o.program.now in
    let plan = o.plan.now in
    let p = o.processor in
    let place = turns_place d.turns.now.value.turns in
    let all = all_deeds tree plan p in
    let ds = drop o.done.done all in
    let r = c.requires in
    let s = print_next tree plan place p ds r.1 r.0 r.2 in
    record { next = (r.0, s.0, s.1) }

pub returns-clause-left : goal.returns-clause-left
returns-clause-left g c =
    let d = c.args.self.now in
    let o = d.overlay.now in
    let tree = tree_of o.program.now in
    let plan = o.plan.now in
    let p = o.processor in
    let place = turns_place d.turns.now.value.turns in
    let all = all_deeds tree plan p in
    let ds = drop o.done.done all in
    let r = c.requires in
    let s = print_next tree plan place p ds r.1 r.0 r.2 in
    let new = c.print_line.new.self in
    let went = c.print_line.ensures in (
      r.0,
      phase_left tree plan place p all o.done.done (printing r.0) (printing r.0) s.0 r.1 s.1 r.2
          ∙ ap (λ l. printing r.0 ∷ l) (sym (its_phase tree plan o.behind p o.memory.now new went.kept place (o.done.done + 1) went.further)),
      its_printed tree plan o.behind p o.memory.now new went.kept ∙ went.printed r.0 s.0 s.1,
    )
