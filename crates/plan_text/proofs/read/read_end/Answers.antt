use Rattle.plan_text.proofs.Plans.{end_refused}
use Rattle.plan_text.proofs.read.read_end.Goals as goal

pub returns-else-is_same-clause-refused : goal.returns-else-is_same-clause-refused
returns-else-is_same-clause-refused c =
    end_refused c.in_ok-line.line.now c.args.lines.now.rest.now c.next.new.self.rest.now c.refusal.result c.args.lines.now.taken c.next.new.self.taken c.refusal.ensures c.in_ok-line.ensures.taken c.in_ok-line.ensures.whole c.in_ok-line.ensures.cut (c.is_same.ensures.differs c.if-is_same.false)
