-- The statuses of the process.
use Rattle.std.specs.Prelude.{ℕ, List, Option, Some, None, codes}
use Rattle.bench_parts.specs.declared.ending.Ending.{Ending}
use Rattle.bench_parts.specs.declared.ending.Ending.TheVariants.{Done, Refused, BadWords, BadCertificate, Fault, NoMemory}

-- the number of an ending, with which the process ends
abbrev pub code_of : Ending → ℕ
code_of Done = 0
code_of Refused = 1
code_of BadWords = 2
code_of BadCertificate = 3
code_of Fault = 4
code_of NoMemory = 5

-- what is told of an ending on standard error: nothing where a line was written of it
abbrev pub message_of : Ending → Option (List ℕ)
message_of Done = None
message_of Refused = None
message_of BadWords = Some (codes "the words are PART or PART --times")
message_of BadCertificate = None
message_of Fault = Some (codes "a read or a write failed")
message_of NoMemory = Some (codes "memory ran out")
