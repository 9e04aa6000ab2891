use Rattle.std.proofs.Common.{refl, ◌∙◌, ◌+◌}
use Rattle.plan_text.specs.PlanText.{alone, is_loop_shown}
use Rattle.plan_text.specs.Words.{loop_line}
use Rattle.plan_text.proofs.Defaults.{first_loop}
use Rattle.plan_text.proofs.Frees.{loops-free}
use Rattle.plan_text.proofs.Items.{item_refused, line_refused, one_line, one_more}
use Rattle.plan_text.proofs.part.read_loops.Goals as goal

pub returns-in-Err-clause-refused : goal.returns-in-Err-clause-refused
returns-in-Err-clause-refused c =
    item_refused (alone loop_line) (is_loop_shown c.args.version) (loops-free c.args.version) first_loop refl c.args.lines.now.rest.now c.loop-index.lines.rest.now c.args.lines.now.taken c.loop-index.lines.taken c.loop-index.index c.args.count c.loop-index.items.items c.in-Err.refusal
    c.loop-index-test.true c.loop-index.invariant (line_refused (loop_line (c.loop-index.index + 1)) (is_loop_shown c.args.version) first_loop refl c.loop-index.lines.rest.now c.loop-index.lines.taken c.in-Err.refusal c.in-Err.ensures.refused)

pub loop-index-preserved : goal.loop-index-preserved
loop-index-preserved c =
    one_more (alone loop_line) (is_loop_shown c.args.version) c.args.lines.now.rest.now c.loop-index.lines.rest.now c.read_loop.new.lines.rest.now c.args.lines.now.taken c.loop-index.lines.taken c.read_loop.new.lines.taken c.loop-index.index c.loop-index.items.items c.push.new.self.items c.in-Ok.item
    c.in_ok-push-in-Ok.ensures.items c.loop-index.invariant (c.in-Ok.ensures.ok ∙ one_line (loop_line (c.loop-index.index + 1) c.in-Ok.item) c.read_loop.new.lines.rest.now) c.in-Ok.ensures.taken c.in-Ok.ensures.shown
