use Rattle.std.proofs.Common.{◌<◌, sym, subst}
use Rattle.nest_tree.specs.View.{tree_of}
use Rattle.fork_join.specs.Cursors.{ComesNext}
use Rattle.fork_join.specs.Joins.{IsSafe}
use Rattle.fork_join.specs.Workers.{IsBeginning}
use Rattle.fork_join.specs.declared.worker.Worker.{Worker}
use Rattle.fork_join.proofs.Beginning.{Key, begin_first, begins_next, has_begun, same_key, seen_beginning}
use Rattle.fork_join.proofs.worker.Worker.begin.Goals as goal

pub loop-next-init : goal.loop-next-init
loop-next-init c =
    let w = c.args.self.now in
    begin_first (tree_of w.program.now) w.plan.now c.requires.safe c.args.behind w.processor c.requires.below w c.requires.some c.requires.at

pub pass_wait-requires-clause-safe : goal.pass_wait-requires-clause-safe
pass_wait-requires-clause-safe c =
    let first = c.args.self.now in
    let tree = tree_of first.program.now in
    let plan = first.plan.now in
    let p = first.processor in
    let n = c.args.behind in
    let w = c.loop-next.self in
    let saw = c.peek.ensures in
    let d = c.peek.new.self in
    let b = seen_beginning tree plan n p w d c.loop-next.invariant saw.sound saw.left saw.turns saw.same in
    let v : Worker = record w { turns = d } in
    let key = same_key tree plan p _ v b.stands in
    subst (λ (k : Key). IsSafe k.0 k.1.0) key c.requires.safe

pub pass_wait-requires-clause-below : goal.pass_wait-requires-clause-below
pass_wait-requires-clause-below c =
    let first = c.args.self.now in
    let tree = tree_of first.program.now in
    let plan = first.plan.now in
    let p = first.processor in
    let n = c.args.behind in
    let w = c.loop-next.self in
    let saw = c.peek.ensures in
    let d = c.peek.new.self in
    let b = seen_beginning tree plan n p w d c.loop-next.invariant saw.sound saw.left saw.turns saw.same in
    let v : Worker = record w { turns = d } in
    let key = same_key tree plan p _ v b.stands in
    subst (λ (k : Key). k.1.1 < k.1.0.workers) key c.requires.below

pub pass_wait-requires-clause-at : goal.pass_wait-requires-clause-at
pass_wait-requires-clause-at c =
    let first = c.args.self.now in
    let tree = tree_of first.program.now in
    let plan = first.plan.now in
    let p = first.processor in
    let n = c.args.behind in
    let w = c.loop-next.self in
    let saw = c.peek.ensures in
    let d = c.peek.new.self in
    let b = seen_beginning tree plan n p w d c.loop-next.invariant saw.sound saw.left saw.turns saw.same in
    let v : Worker = record w { turns = d } in
    let key = same_key tree plan p _ v b.stands in
    subst (λ (k : Key). IsBeginning k.0 k.1.0 n k.1.1 v) key b

pub loop-next-preserved : goal.loop-next-preserved
loop-next-preserved c =
    let first = c.args.self.now in
    let tree = tree_of first.program.now in
    let plan = first.plan.now in
    let p = first.processor in
    let n = c.args.behind in
    let w = c.loop-next.self in
    let saw = c.peek.ensures in
    let d = c.peek.new.self in
    let b = seen_beginning tree plan n p w d c.loop-next.invariant saw.sound saw.left saw.turns saw.same in
    let v : Worker = record w { turns = d } in
    let key = same_key tree plan p _ v b.stands in
    subst (λ (k : Key). IsBeginning k.0 k.1.0 n k.1.1 c.pass_wait.new.self) (sym key) c.pass_wait.ensures.at

pub returns-in-Phase-clause-begun : goal.returns-in-Phase-clause-begun
returns-in-Phase-clause-begun c =
    let first = c.args.self.now in
    let tree = tree_of first.program.now in
    let plan = first.plan.now in
    let p = first.processor in
    let n = c.args.behind in
    let w = c.loop-next.self in
    let saw = c.peek.ensures in
    let d = c.peek.new.self in
    let b = seen_beginning tree plan n p w d c.loop-next.invariant saw.sound saw.left saw.turns saw.same in
    let v : Worker = record w { turns = d } in
    let key = same_key tree plan p _ v b.stands in
    let comes = subst (ComesNext d) c.in-Phase.is saw.next in
    let went = c.begin.ensures in
    has_begun tree plan c.requires.safe n p c.requires.below v b c.begin.new.self c.in-Phase.phase (went.left c.in-Phase.phase comes) went.sound went.turns went.same

pub returns-in-Phase-clause-number : goal.returns-in-Phase-clause-number
returns-in-Phase-clause-number c =
    let first = c.args.self.now in
    let tree = tree_of first.program.now in
    let plan = first.plan.now in
    let p = first.processor in
    let n = c.args.behind in
    let w = c.loop-next.self in
    let saw = c.peek.ensures in
    let d = c.peek.new.self in
    let b = seen_beginning tree plan n p w d c.loop-next.invariant saw.sound saw.left saw.turns saw.same in
    let v : Worker = record w { turns = d } in
    let key = same_key tree plan p _ v b.stands in
    let comes = subst (ComesNext d) c.in-Phase.is saw.next in
    begins_next tree plan c.requires.safe n p c.requires.below v b c.begin.new.self c.in-Phase.phase (c.begin.ensures.left c.in-Phase.phase comes)
