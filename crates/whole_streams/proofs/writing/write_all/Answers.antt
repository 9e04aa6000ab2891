use Rattle.std.proofs.Common.{arith, ◌∙◌}
use Rattle.whole_streams.proofs.Parts.{part_kept, part_none, part_more}
use Rattle.whole_streams.proofs.writing.write_all.Goals as goal

pub returns-in_default-clause-part : goal.returns-in_default-clause-part
returns-in_default-clause-part g c = part_kept _ _ _ _ _ c.loop-written.invariant.front c.in_default.ensures.fault_writes_nothing

pub returns-then-taken-eq0-clause-part : goal.returns-then-taken-eq0-clause-part
returns-then-taken-eq0-clause-part g c =
    part_none _ _ _ _ _ _ c.in-Ok.taken (omega arith) c.loop-written.invariant.front c.in-Ok.ensures.appended

pub loop-written-preserved : goal.loop-written-preserved
loop-written-preserved g c = record {
  within = omega (arith, c.in-Ok.ensures.within);
  front = part_more _ _ _ _ _ _ c.loop-written.invariant.front c.in-Ok.ensures.appended;
  faults = c.in-Ok.ensures.only_faults_are ∙ c.loop-written.invariant.faults;
  empties = c.in-Ok.ensures.bytes_are_no_empty (omega arith) ∙ c.loop-written.invariant.empties;
}
