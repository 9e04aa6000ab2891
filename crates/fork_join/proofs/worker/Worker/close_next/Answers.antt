use Rattle.std.proofs.Common.{true≢false, sym}
use Rattle.nest_tree.specs.View.{tree_of}
use Rattle.turns.specs.declared.turns.Next.TheVariants as Nexts
use Rattle.fork_join.proofs.Closes.{seen_closing, shut_now}
use Rattle.fork_join.proofs.Shutting.{one_turn}
use Rattle.fork_join.proofs.worker.Worker.close_next.Goals as goal

pub close-requires-clause-closing : goal.close-requires-clause-closing
close-requires-clause-closing c =
    let w = c.args.self.now in
    let saw = c.peek.ensures in
    seen_closing (tree_of w.program.now) w.plan.now c.requires.safe c.args.behind w.processor c.requires.below c.args.memory.now w c.peek.new.self c.requires.closing saw.sound saw.left saw.turns saw.same

pub returns-in_default-next : goal.returns-in_default-next
returns-in_default-next c =
    let w = c.args.self.now in
    let tree = tree_of w.program.now in
    let plan = w.plan.now in
    let n = c.args.behind in
    let p = w.processor in
    let d = c.peek.new.self in
    let saw = c.peek.ensures in
    let closing = seen_closing tree plan c.requires.safe n p c.requires.below c.args.memory.now w d c.requires.closing saw.sound saw.left saw.turns saw.same in
    record {
      closing = closing;
      nearer = λ no. absurd (true≢false (sym no));
      ended = λ _. shut_now tree plan c.requires.safe n p c.requires.below w.done.done d w.executor c.peek.result closing.stands.runs saw.next
          (λ k is. c.in_default-next.not-Close k (one_turn c.peek.result c.in-Turn.next (Nexts.Close k) c.in-Turn.is is));
    }
