-- What a call of the tool does, as a few records of named facts.
use Rattle.std.specs.Prelude.{ℕ, ◌≡◌, ◌≢◌, ◌+◌, ◌<◌, ◌⊎◌, List, [], Option, None, true, IsTrue}
use Rattle.std.specs.Io.KnownBytes.{IsAtEnd}
use Rattle.clap.specs.Words.{Text}
use Rattle.command_words.specs.Wanted.{Takes, Wanted, asks_to_show, bench}
use Rattle.spmd_answer.specs.Due.{Due, is_run}
use Rattle.spmd_answer.specs.declared.receipt.Receipt.{Receipt}
use Rattle.plan_input.specs.declared.status.Status.{Status}
use Rattle.plan_input.specs.declared.status.Status.TheVariants.{Done, SourceRefused, BadWords, ReadFault, WriteFault, NoMemory, PlanRefused, TooLong}
use Rattle.spmd_ports.specs.Counts.{Rose}
use Rattle.whole_streams.specs.Streams.{NoneRose, RoseOneOf, TakesBytes, WhereTold}
use Rattle.spmd_tool.specs.Due.{AreWrong, AskFor, IsDue, IsOrNoMemory, IsRunnable, IsUnplanned, ReadFor, all_settings, is_said, most_bytes, reads, source_for}
use Rattle.spmd_tool.specs.Written.{WritesDue, WritesPartOfDue, WritesReceipt, WritesRefusal}

-- what is known of the source and the sink: what is left to read and what was written, where they tell that, and their counts of faults and of empty answers
pub record Streams : Type 0 where
  pub left : Option (List ℕ)
  pub source_faults : ℕ
  pub written : Option (List ℕ)
  pub sink_faults : ℕ
  pub empties : ℕ

-- a call with these words, before which the streams were so and behind which they are so, and what it answers
pub record Call : Type 0 where
  pub words : List Text
  pub before : Streams
  pub behind : Streams
  pub status : Status
  pub receipt : Option Receipt

-- no count rose in the call
abbrev pub NoneRoseIn : Call → Type 0
NoneRoseIn c = NoneRose c.before.source_faults c.behind.source_faults c.before.sink_faults
    c.behind.sink_faults c.before.empties c.behind.empties

-- the status is this one or, for want of memory, 5
abbrev pub EndsWith : Call → Status → Type 0
EndsWith c status = IsOrNoMemory status c.status

-- the status is this one; or 4 where the answer can't be written, or 5
abbrev pub AnswersWith : Call → Status → Type 0
AnswersWith c status = (c.status ≡ status) ⊎ ((c.status ≡ WriteFault) ⊎ (c.status ≡ NoMemory))

-- What is written: with 0, 1, 2, 6 and 7 the text that is due with it, with 6 for a plan that stands behind END and is refused for the line that was written, with 4 a part of what is due.
pub record WritesWhatIsDue (c : Call) : Type 0 where
  pub due : IsTrue (is_said c.status) → WritesDue c.words c.before.left c.status c.before.written
      c.behind.written
  pub refused_plan : (w : Wanted) → Takes c.words w → c.status ≡ PlanRefused
      → WritesRefusal w c.before.left c.before.written c.behind.written
  pub part : c.status ≡ WriteFault → WritesPartOfDue c.words c.before.left c.before.written
      c.behind.written

-- When each status comes, where no count rises: the one that is due (`exact`); so 0 where the bytes stand for a program that may be run (`complete`), and for `bench`, whose own source always does, whether or not the source tells its bytes (`complete_bench`); 6 where no such plan stands behind such a program (`unplanned`).
pub record EndsAsIsDue (c : Call) : Type 0 where
  pub exact : NoneRoseIn c → WhereTold c.before.left
      (λ bytes. (due : Due) → IsDue c.words bytes due → EndsWith c due.status)
  pub complete : NoneRoseIn c → WhereTold c.before.left
      (λ bytes. (w : Wanted) → AskFor c.words w → IsRunnable w (source_for w bytes)
      → EndsWith c Done)
  pub complete_bench : NoneRoseIn c → (workers points sweeps : ℕ)
      → Takes c.words (bench workers points sweeps) → EndsWith c Done
  pub unplanned : NoneRoseIn c → WhereTold c.before.left
      (λ bytes. (w : Wanted) → AskFor c.words w → IsUnplanned w (source_for w bytes)
      → EndsWith c PlanRefused)

-- Words alone: wrong ones are status 2, those that ask for help or for the version status 0, and those of a request without settings are never status 2.
pub record HeedsWords (c : Call) : Type 0 where
  pub wrong_words : AreWrong c.words → AnswersWith c BadWords
  pub shown_words : asks_to_show c.words ≡ true → AnswersWith c Done
  pub right_words : (w : Wanted) → AskFor c.words w → all_settings w ≡ [] → c.status ≢ BadWords

-- How far the source is read: to its end with 0, where the request reads it, with 1, with 6, and with 2 for a setting's name; with 7 one byte behind the most.
pub record ReadsToEnd (c : Call) : Type 0 where
  pub end : (w : Wanted) → Takes c.words w → reads w ≡ true → c.status ≡ Done
      → IsAtEnd c.behind.left
  pub end_refused : c.status ≡ SourceRefused → IsAtEnd c.behind.left
  pub end_unplanned : c.status ≡ PlanRefused → IsAtEnd c.behind.left
  pub end_named : (w : Wanted) → ReadFor c.words w → c.status ≡ BadWords → IsAtEnd c.behind.left
  pub stops : c.status ≡ TooLong → TakesBytes c.before.left c.behind.left (most_bytes + 1)

-- A read fault comes only where the source's count rose in this call, and wherever it grew; a write fault likewise with the sink's two counts.
pub record TellsFaults (c : Call) : Type 0 where
  pub read_fault : c.status ≡ ReadFault → Rose c.before.source_faults c.behind.source_faults
  pub no_read_fault : c.before.source_faults < c.behind.source_faults → c.status ≡ ReadFault
  pub write_fault : c.status ≡ WriteFault → RoseOneOf c.before.sink_faults c.behind.sink_faults
      c.before.empties c.behind.empties
  pub no_write_fault : c.before.sink_faults < c.behind.sink_faults → c.status ≡ WriteFault
  pub no_empty_answer : c.before.empties < c.behind.empties → c.status ≡ WriteFault

-- The receipt of a run: its program and its plan are those of which the text was written, and its engine is the one that was asked for, so the plan that was written is the one that ran; without a run there is none.
pub record LeavesReceipt (c : Call) : Type 0 where
  pub receipt : (w : Wanted) → Takes c.words w → is_run w ≡ true → c.status ≡ Done
      → WritesReceipt w c.before.left c.before.written c.behind.written c.receipt
  pub no_receipt : ((w : Wanted) → Takes c.words w → is_run w ≡ true → c.status ≡ Done → ⊥)
      → c.receipt ≡ None

-- What is written, when each status comes, how far the source is read, when a fault is told, and the receipt.
pub record Behaves (c : Call) : Type 0 where
  pub writes : WritesWhatIsDue c
  pub ends : EndsAsIsDue c
  pub heeds : HeedsWords c
  pub reads_on : ReadsToEnd c
  pub tells : TellsFaults c
  pub leaves : LeavesReceipt c
