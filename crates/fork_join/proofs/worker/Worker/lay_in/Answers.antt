use Rattle.std.proofs.Common.{sym, ◌∙◌, subst}
use Rattle.nest_tree.specs.View.{tree_of}
use Rattle.fork_join.specs.Joins.{joined}
use Rattle.fork_join.specs.StoreLists.{entries_of}
use Rattle.fork_join.specs.Workers.{IsClosing}
use Rattle.fork_join.proofs.Beginning.{Key, same_key}
use Rattle.fork_join.proofs.Closes.{closed_at}
use Rattle.fork_join.proofs.Running.{laid_stores, sized}
use Rattle.fork_join.proofs.worker.Worker.lay_in.Goals as goal

pub lay_in-requires-clause-cells : goal.lay_in-requires-clause-cells
lay_in-requires-clause-cells c =
    let w = c.args.self.now in
    let tree = tree_of w.program.now in
    c.requires.worked.stands.cells ∙ sym (sized tree w.plan.now c.requires.safe c.args.memory.now (joined tree w.plan.now c.args.behind w.processor) c.requires.lawful)

pub loop-init : goal.loop-init
loop-init c =
    let w = c.args.self.now in
    let tree = tree_of w.program.now in
    let stands = c.requires.worked.stands in
    let went = c.lay_in.ensures in
    record {
      stands = record {
        program = stands.program;
        plan_is = stands.plan_is;
        processor = stands.processor;
        runs = stands.runs;
        kept = went.kept;
        cells = went.cells ∙ stands.cells;
        holds = stands.holds;
      };
      none = went.none;
      lawful = laid_stores tree w.plan.now c.requires.safe c.args.behind w.processor w.done.done c.args.memory.now c.lay_in.new.memory (entries_of w.stores) c.requires.lawful c.requires.worked.goes went.laid;
    }

pub returns-clause-at : goal.returns-clause-at
returns-clause-at c =
    let w = c.args.self.now in
    let tree = tree_of w.program.now in
    let plan = w.plan.now in
    let n = c.args.behind in
    let p = w.processor in
    let key = same_key tree plan p _ c.loop.self c.loop.invariant.stands in
    let v = c.close_next.new.self in
    let memory = c.close_next.new.memory in
    let closing = subst (λ (k : Key). IsClosing k.0 k.1.0 n k.1.1 memory v) (sym key) c.close_next.ensures.closing in
    (closed_at tree plan c.requires.safe n p c.requires.below memory v closing (c.close_next.ensures.ended c.loop-test.false)).0

pub returns-clause-lawful : goal.returns-clause-lawful
returns-clause-lawful c =
    let w = c.args.self.now in
    let tree = tree_of w.program.now in
    let plan = w.plan.now in
    let n = c.args.behind in
    let p = w.processor in
    let key = same_key tree plan p _ c.loop.self c.loop.invariant.stands in
    let v = c.close_next.new.self in
    let memory = c.close_next.new.memory in
    let closing = subst (λ (k : Key). IsClosing k.0 k.1.0 n k.1.1 memory v) (sym key) c.close_next.ensures.closing in
    (closed_at tree plan c.requires.safe n p c.requires.below memory v closing (c.close_next.ensures.ended c.loop-test.false)).1
