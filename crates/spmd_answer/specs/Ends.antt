-- What a receipt says, whichever engine gave it.
use Rattle.std.specs.Prelude.{ℤ, List, Option, Some, None}
use Rattle.nest_tree.specs.declared.program.Program.{Program}
use Rattle.sync_plan.specs.declared.plan.Plan.{Plan}
use Rattle.spmd_machine.specs.Ends as core
use Rattle.fork_join.specs.Ends as join
use Rattle.shared_words.specs.Ends as spmd
use Rattle.shared_words.specs.Homes.{Subject, style_given}
use Rattle.command_words.specs.declared.request.Engine.{Engine}
use Rattle.command_words.specs.declared.request.Engine.TheVariants.{Core, Join, Spmd}
use Rattle.spmd_answer.specs.declared.receipt.Receipt.{Receipt}
use Rattle.spmd_answer.specs.declared.receipt.Receipt.TheVariants as by

-- by which engine the run went, in which style of barriers, where it has one
abbrev pub engine_of : Receipt → Engine
engine_of (by.Core e) = Core e.style
engine_of (by.Join e) = Join
engine_of (by.Spmd e) = Spmd (style_given e.given)

abbrev pub without_style : Option Subject → Option (Program × Plan)
without_style (Some (program, (plan, style))) = Some (program, plan)
without_style None = None

-- of which program under which plan it was
abbrev pub run_in : Receipt → Option (Program × Plan)
run_in (by.Core e) = Some (e.program, e.plan)
run_in (by.Join e) = Some (e.program, e.plan)
run_in (by.Spmd e) = without_style e.given

-- what memory it left
abbrev pub memory_in : Receipt → List ℤ
memory_in (by.Core e) = e.memory
memory_in (by.Join e) = e.memory
memory_in (by.Spmd e) = e.memory

-- it came to its end: the machine behind some schedule, with this memory; workers that fork and join with the sequential program's last memory; workers that share words with all their seats taken in
abbrev pub HasEnded : Receipt → Type 0
HasEnded (by.Core e) = core.HasRun e
HasEnded (by.Join e) = join.IsLast e
HasEnded (by.Spmd e) = spmd.HasEnded e
