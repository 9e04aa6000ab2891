-- What the top call has found and written, of what is due.
use Rattle.std.specs.Prelude.{ℕ, ◌≡◌, List, Option, Some, None}
use Rattle.std.specs.Io.KnownBytes.{Appends}
use Rattle.clap.specs.Words.{Text}
use Rattle.command_words.specs.Wanted.{Takes, Wanted}
use Rattle.plan_input.specs.Sources.{behind_end}
use Rattle.spmd_answer.specs.Due.{Due, IsRefusalFor, IsTextFor, line}
use Rattle.spmd_answer.specs.declared.receipt.Receipt.{Receipt}
use Rattle.spmd_answer.specs.Receipts.{IsReceiptOf}
use Rattle.plan_input.specs.declared.status.Status.{Status}
use Rattle.spmd_tool.specs.Due.{HasReceiptFor, IsDue, IsDueFor, IsRunnable, IsUnplanned, program_for, readings_for, source_for}
use Rattle.whole_streams.specs.Streams.{AreTold, WritesPart}

-- This is due for the words and the bytes of the source, where it tells them.
pub record IsDueFrom (words : List Text) (source : Option (List ℕ)) (due : Due) : Type 0 where
  pub bytes : List ℕ
  pub told : AreTold source bytes
  pub is_due : IsDue words bytes due

-- This is due for a request and the bytes of the source, where it tells them, and this is the receipt of a run by a plan.
pub record IsAnswerOf (wanted : Wanted) (source : Option (List ℕ)) (due : Due)
    (receipt : Option Receipt) : Type 0 where
  pub bytes : List ℕ
  pub told : AreTold source bytes
  pub is_due : IsDueFor wanted (source_for wanted bytes) due
  pub receipt_is : HasReceiptFor wanted (source_for wanted bytes) due receipt

-- The same for words; without a request there is no receipt.
pub record IsAnswerFrom (words : List Text) (source : Option (List ℕ)) (due : Due)
    (receipt : Option Receipt) : Type 0 where
  pub bytes : List ℕ
  pub told : AreTold source bytes
  pub is_due : IsDue words bytes due
  pub receipt_is : (wanted : Wanted) → Takes words wanted
      → HasReceiptFor wanted (source_for wanted bytes) due receipt
  pub none : ((wanted : Wanted) → Takes words wanted → ⊥) → receipt ≡ None

-- The text that is due with this status, for these words and the bytes of the source, was written.
pub record WritesDue (words : List Text) (source : Option (List ℕ)) (status : Status)
    (old new : Option (List ℕ)) : Type 0 where
  pub text : List ℕ
  pub due : IsDueFrom words source (record { status = status; text = text })
  pub written : Appends old new text

-- A part from the front of a text that is due for them was written.
pub record WritesPartOfDue (words : List Text) (source : Option (List ℕ))
    (old new : Option (List ℕ)) : Type 0 where
  pub due : Due
  pub is_due : IsDueFrom words source due
  pub written : WritesPart old new due.text

-- The bytes of the source, of `bench` those of its own, stand for a program that may be run, and what the request asks for was written: of `plan` the text of a plan that is made and then that of its reasons, of `run` the text of a plan and then the sequential output, of `bench` how many waits of each kind the plan has and then the output, of `seq` the output, of `verify` that the plan is accepted, or with a sweep a line for each value.
pub record WritesRun (wanted : Wanted) (source : Option (List ℕ)) (old new : Option (List ℕ)) :
    Type 0 where
  pub bytes : List ℕ
  pub told : AreTold source bytes
  pub runnable : IsRunnable wanted (source_for wanted bytes)
  pub text : List ℕ
  pub is_text : IsTextFor wanted (program_for wanted (source_for wanted bytes))
      (readings_for wanted (source_for wanted bytes)) (behind_end (source_for wanted bytes)) text
  pub written : Appends old new text

-- The same of a run by a plan: what was written is what the run by one plan writes, and of that program, that plan and the engine that was asked for is the receipt, with the last memory.
pub record WritesReceipt (wanted : Wanted) (source : Option (List ℕ)) (old new : Option (List ℕ))
    (receipt : Option Receipt) : Type 0 where
  pub bytes : List ℕ
  pub told : AreTold source bytes
  pub runnable : IsRunnable wanted (source_for wanted bytes)
  pub text : List ℕ
  pub written : Appends old new text
  pub left : Receipt
  pub receipt_is : receipt ≡ Some left
  pub is_receipt : IsReceiptOf wanted (program_for wanted (source_for wanted bytes))
      (behind_end (source_for wanted bytes)) text left

-- The bytes of the source stand for such a program, but the plan that the request takes from behind END is refused, and the line that says so was written.
pub record WritesRefusal (wanted : Wanted) (source : Option (List ℕ)) (old new : Option (List ℕ)) :
    Type 0 where
  pub bytes : List ℕ
  pub told : AreTold source bytes
  pub unplanned : IsUnplanned wanted (source_for wanted bytes)
  pub reason : List ℕ
  pub is_reason : IsRefusalFor wanted (program_for wanted (source_for wanted bytes))
      (behind_end (source_for wanted bytes)) reason
  pub written : Appends old new (line reason)
