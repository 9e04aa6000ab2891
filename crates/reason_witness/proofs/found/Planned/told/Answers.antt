use Rattle.std.proofs.Common.{[], IsTrue, rules}
use Rattle.comm_system.proofs.Lists.{contains_here}
use Rattle.reason_witness.proofs.found.Planned.told.Goals as goal

pub returns-then-takes : goal.returns-then-takes
returns-then-takes c =
    let is : IsTrue c.is.result = search rules in
    record {
      among = contains_here c.args.obligation [];
      wanted_is = c.is.ensures.0 is;
      taken = c.takes.ensures.taken c.if-takes.true;
      found = c.in_ok-finding.ensures;
    }
