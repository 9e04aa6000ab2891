use Rattle.std.proofs.Common.{subst}
use Rattle.fm_elim.specs.Answers.{IsDecided}
use Rattle.plan_maker.proofs.Judgements.{found_many, found_wide, found_work}
use Rattle.plan_maker.proofs.decided.found_by.Goals as goal

pub returns-in-Wide : goal.returns-in-Wide
returns-in-Wide c = λ system order h. found_wide system order c.in-Wide.level c.in-Wide.upper c.in-Wide.lower (subst (IsDecided system order) c.in-Wide.is h)

pub returns-in-Many : goal.returns-in-Many
returns-in-Many c = λ system order h. found_many system order c.in-Many.level c.in-Many.count (subst (IsDecided system order) c.in-Many.is h)

pub returns : goal.returns
returns c = λ system order h. found_work system order c.in-Work.level c.in-Work.pairs (subst (IsDecided system order) c.in-Work.is h)
