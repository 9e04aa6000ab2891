use Rattle.plan_text.proofs.Plans.{version_refused}
use Rattle.plan_text.proofs.read.read_version.Goals as goal

pub returns-clause-refused : goal.returns-clause-refused
returns-clause-refused c =
    version_refused c.in_ok-line.line.now c.args.lines.now.rest.now c.next.new.self.rest.now c.refusal.result c.args.lines.now.taken c.next.new.self.taken c.refusal.ensures c.in_ok-line.ensures.taken c.in_ok-line.ensures.whole c.in_ok-line.ensures.cut
    (c.is_same.ensures.differs c.if-is_same.false) (c.is_same-2.ensures.differs c.if-is_same-2.false) (c.is_same-3.ensures.differs c.if-is_same-3.false) (c.is_same-4.ensures.differs c.if-is_same-4.false) (c.is_same-5.ensures.differs c.if-is_same-5.false)
