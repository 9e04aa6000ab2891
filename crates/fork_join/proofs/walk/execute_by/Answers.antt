use Rattle.std.proofs.Common.{◌≡◌, drop, map, refl, sym, ◌∙◌, ap, subst, rules}
use Rattle.nest_tree.specs.View.{tree_of}
use Rattle.nest_walk.specs.RoundsOf.{rounds_of}
use Rattle.own_cells.specs.declared.cells.OwnCells.{OwnCells}
use Rattle.instance_runs.specs.Executors.{Begins, executor_tree}
use Rattle.turns.specs.TurnsLeft.{turns_place}
use Rattle.fork_join.specs.Joins.{all_deeds}
use Rattle.fork_join.specs.SeenDeeds.{FindsOwn, phase_deed}
use Rattle.fork_join.specs.Workers.{HasExecuted}
use Rattle.fork_join.specs.declared.cursor.Cursor.{Cursor}
use Rattle.fork_join.proofs.Executing.{begins_seen, executed, left_seen}
use Rattle.fork_join.proofs.OwnSeeing.{few_here}
use Rattle.fork_join.proofs.Walking.{its_below, its_phase, its_printed, its_registers, its_within, keeps, next_here, next_room}
use Rattle.fork_join.proofs.walk.execute_by.Goals as goal

pub invariant_of-seen : goal.invariant_of-seen
invariant_of-seen g c =
    let o = c.args.overlay.now in
    let tree = tree_of o.program.now in
    let plan = o.plan.now in
    let d = c.args.turns.now in
    let fits = g.P.Places.Fits c.own_cells.result.now in
    let finds : FindsOwn tree plan (turns_place d.turns) fits = record {
      few = few_here tree plan o.processor _ o.done.done d c.args.executor.now c.requires.walks.runs;
      fit = subst (λ (own : OwnCells). g.P.Places.Fits own tree plan (turns_place d.turns)) (sym c.own_cells.ensures) c.requires.fits;
    } in
    record { finds = ∣ subst (λ (z : Cursor). FindsOwn tree plan (turns_place z.turns) fits) (sym c.of-phase.ensures) finds ∣₁ }

pub execute-requires-clause-begins : goal.execute-requires-clause-begins
execute-requires-clause-begins g c =
    let o = c.args.overlay.now in
    let tree = tree_of o.program.now in
    let plan = o.plan.now in
    let n = o.behind in
    let p = o.processor in
    let done = o.done.done in
    let d = c.args.turns.now in
    let x = c.args.executor.now in
    let walks = c.requires.walks in
    let r = walks.runs in
    let rounds = rounds_of c.path.result.now in
    let h = next_here tree plan n p done walks.left d x c.args.stop rounds r (sym c.path.ensures) c.requires.next in
    let b = begins_seen tree plan n p done walks.left d x c.args.stop rounds h r.executor (few_here tree plan p _ done d x r) in
    subst (λ (z : Cursor). Begins (executor_tree x) rounds c.args.stop (map (phase_deed tree plan (turns_place z.turns) p) (drop done (all_deeds tree plan p)))) (sym c.of-phase.ensures) b

pub execute-requires-clause-room : goal.execute-requires-clause-room
execute-requires-clause-room g c =
    let o = c.args.overlay.now in
    let tree = tree_of o.program.now in
    let plan = o.plan.now in
    let n = o.behind in
    let p = o.processor in
    let done = o.done.done in
    let d = c.args.turns.now in
    let x = c.args.executor.now in
    let walks = c.requires.walks in
    let r = walks.runs in
    let rounds = rounds_of c.path.result.now in
    let h = next_here tree plan n p done walks.left d x c.args.stop rounds r (sym c.path.ensures) c.requires.next in
    next_room tree plan c.requires.safe n p done walks.left d x c.args.stop rounds r (its_below o) h

pub returns-clause-executed : goal.returns-clause-executed
returns-clause-executed g c =
    let o = c.args.overlay.now in
    let tree = tree_of o.program.now in
    let plan = o.plan.now in
    let n = o.behind in
    let p = o.processor in
    let done = o.done.done in
    let d = c.args.turns.now in
    let x = c.args.executor.now in
    let walks = c.requires.walks in
    let r = walks.runs in
    let rounds = rounds_of c.path.result.now in
    let h = next_here tree plan n p done walks.left d x c.args.stop rounds r (sym c.path.ensures) c.requires.next in
    let few = few_here tree plan p _ done d x r in
    let b = begins_seen tree plan n p done walks.left d x c.args.stop rounds h r.executor few in
    let moved = subst (λ (z : Cursor). (e : Begins (executor_tree x) rounds c.args.stop (map (phase_deed tree plan (turns_place z.turns) p) (drop done (all_deeds tree plan p)))) × (e.rest ≡ b.rest)) (sym c.of-phase.ensures) (b, refl) in
    let s = c.execute.new.deeds.overlay.now in
    let went = c.execute.ensures in
    let turns : c.execute.new.deeds.turns.now.value ≡ d = ap (λ k. k.1.0) went.kept ∙ c.of-phase.ensures in
    let kept = keeps o s (ap (λ k. k.1.1) went.kept) in
    let within = its_within tree plan n p o.memory.now s kept in
    let now = sym (its_phase tree plan n p o.memory.now s kept (turns_place d.turns) s.done.done refl)
    ∙ sym (ap (λ (z : Cursor). map (phase_deed (tree_of s.program.now) s.plan.now (turns_place z.turns) s.processor) (drop s.done.done (all_deeds (tree_of s.program.now) s.plan.now s.processor))) turns) ∙ went.left moved.0 ∙ moved.1 in
    let left = left_seen tree plan n p done walks.left d x c.args.stop rounds h r.executor few s.done.done within now in
    let got : HasExecuted tree plan p done s.done.done d x c.execute.new.self =
    executed tree plan n p done walks.left d x c.args.stop rounds h r.executor s.done.done c.execute.new.self left within (sym (its_registers tree plan n p o.memory.now s kept) ∙ went.idle) went.can (went.program ∙ r.executor)
    (went.output ∙ its_printed tree plan n p o.memory.now s kept) went.room went.grown (next_room tree plan c.requires.safe n p done walks.left d x c.args.stop rounds r (its_below o) h) in
    search rules
