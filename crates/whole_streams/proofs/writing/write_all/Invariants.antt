use Rattle.std.proofs.Common.{◌≡◌, ◌≤◌, ◌-◌, length, take}
use Rattle.std.specs.Io.KnownBytes.{Appends}
use Rattle.whole_streams.proofs.writing.write_all.Given as goal

-- what was written so far is the front of the text, and nothing failed
abbrev pub invariant-loop-written : goal.invariant-loop-written
invariant-loop-written g l = record {
  within : l.written ≤ length l.text;
  front : Appends (g.K.Sink.written l.initial.sink) (g.K.Sink.written l.sink) (take l.written l.text);
  faults : g.K.Sink.faults l.sink ≡ g.K.Sink.faults l.initial.sink;
  empties : g.K.Sink.empties l.sink ≡ g.K.Sink.empties l.initial.sink;
}

abbrev pub decreases-loop-written : goal.decreases-loop-written
decreases-loop-written g l = length l.text - l.written
