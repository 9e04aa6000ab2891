use Rattle.std.proofs.Common.{true≢false, suc, List, ◌++◌, map, refl, sym, ◌∙◌, ap, subst}
use Rattle.nest_tree.specs.View.{tree_of}
use Rattle.turns.specs.CounterTurns.{CounterTurn, works}
use Rattle.turns.specs.declared.turns.NextOrPhase.TheVariants as Coming
use Rattle.turns.specs.declared.turns.Next.{Next}
use Rattle.turns.specs.declared.turns.Next.TheVariants as Nexts
use Rattle.fork_join.specs.Cursors.{ComesNext}
use Rattle.fork_join.specs.Workers.{Runs, turns_behind}
use Rattle.fork_join.proofs.Executing.{next_walks}
use Rattle.fork_join.proofs.Shutting.{no_instance, one_turn}
use Rattle.fork_join.proofs.Turning.{looked}
use Rattle.fork_join.proofs.Walking.{all_done, keeps}
use Rattle.fork_join.proofs.walk.execute_next.Goals as goal

pub returns-in_default-clause-end : goal.returns-in_default-clause-end
returns-in_default-clause-end c = λ _.
    let o = c.args.overlay.now in
    let tree = tree_of o.program.now in
    let plan = o.plan.now in
    let n = o.behind in
    let p = o.processor in
    let w = c.requires.walks in
    let tail = turns_behind tree plan (suc n) p in
    let d = c.peek.new.self in
    let x = c.args.executor.now in
    let saw = c.peek.ensures in
    let seen = looked tree plan p (map works w.left ++ tail) o.done.done c.args.turns.now d x w.runs saw.sound saw.left saw.turns saw.same in
    let none = all_done w.left tail (λ i rest e. no_instance d saw.sound c.peek.result saw.next (λ stop is. c.in_default.not-Turn (Nexts.Work stop) is) i rest (seen.turns ∙ e)) in
    subst (λ (l : List CounterTurn). Runs tree plan p l o.done.done d x) none seen

pub returns-in_default-next : goal.returns-in_default-next
returns-in_default-next c =
    let o = c.args.overlay.now in
    let tree = tree_of o.program.now in
    let plan = o.plan.now in
    let n = o.behind in
    let p = o.processor in
    let w = c.requires.walks in
    let tail = turns_behind tree plan (suc n) p in
    let d = c.peek.new.self in
    let x = c.args.executor.now in
    let saw = c.peek.ensures in
    let seen = looked tree plan p (map works w.left ++ tail) o.done.done c.args.turns.now d x w.runs saw.sound saw.left saw.turns saw.same in
    let none = all_done w.left tail (λ i rest e. no_instance d saw.sound c.peek.result saw.next (λ stop is. c.in_default-next.not-Work stop (one_turn c.peek.result c.in-Turn.next (Nexts.Work stop) c.in-Turn.is is)) i rest (seen.turns ∙ e)) in
    record {
      kept = keeps o o refl;
      walks = record { left = w.left; runs = seen };
      nearer = λ no. absurd (true≢false (sym no));
      end = λ _. subst (λ (l : List CounterTurn). Runs tree plan p l o.done.done d x) none seen;
    }

pub returns-clause-walks : goal.returns-clause-walks
returns-clause-walks c =
    let o = c.args.overlay.now in
    let tree = tree_of o.program.now in
    let plan = o.plan.now in
    let n = o.behind in
    let p = o.processor in
    let w = c.requires.walks in
    let tail = turns_behind tree plan (suc n) p in
    let d = c.peek.new.self in
    let x = c.args.executor.now in
    let saw = c.peek.ensures in
    let seen = looked tree plan p (map works w.left ++ tail) o.done.done c.args.turns.now d x w.runs saw.sound saw.left saw.turns saw.same in
    let comes = subst (ComesNext d) (c.in-Turn.is ∙ ap (λ (z : Next). Coming.Turn z) c.in-Work.is) saw.next in
    let went = c.pass.ensures in
    (next_walks tree plan n p o.done.done c.execute_here.new.overlay.done.done w.left d c.pass.new.self x c.execute_here.new.executor c.in-Work.stop seen comes c.execute_here.ensures.executed went.sound went.none went.passed went.plain went.same).0
