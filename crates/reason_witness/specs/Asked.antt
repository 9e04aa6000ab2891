-- The questions of which reasons are looked for.
use Rattle.std.specs.Prelude.{◌++◌, List, map}
use Rattle.reason_witness.specs.Reasons.{Question, question}
use Rattle.reason_witness.specs.declared.account.About.TheVariants.{Loop, Weaker}
use Rattle.reason_witness.specs.declared.sought.Asked.{Asked}
use Rattle.reason_witness.specs.declared.sought.Candidate.{Candidate}
use Rattle.reason_witness.specs.declared.sought.Serial.{Serial}

abbrev pub serial_question : Serial → Question
serial_question s = question (Loop s.number s.tried) s.wanted

abbrev pub candidate_question : Candidate → Question
candidate_question c = question (Weaker c.phase c.kind) c.wanted

abbrev pub questions_in : Asked → List Question
questions_in a = map serial_question a.loops.items ++ map candidate_question a.phases.items
