-- Answers without where they lie in memory.
use Rattle.spmd_answer.specs.Due.{Due}
use Rattle.spmd_answer.specs.declared.due.Answer.{Answer}

abbrev pub due_in : Answer → Due
due_in a = record { status = a.status; text = a.text.items }
