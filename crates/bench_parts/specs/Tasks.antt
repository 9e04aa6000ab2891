-- The system that is being read.
use Rattle.std.specs.Prelude.{◌-◌, ◌==◌, if◌then◌else◌, [], ◌∷◌, ◌++◌, length, Option, Some, None, Result, Ok, Err}
use Rattle.farkas_cert.specs.declared.system.Row.{Row}
use Rattle.farkas_cert.specs.Narrow.{IsNarrowRow}
use Rattle.bench_parts.specs.declared.line.Head.{Head}
use Rattle.bench_parts.specs.declared.line.Line.{Line}
use Rattle.bench_parts.specs.declared.line.Line.TheVariants as lines
use Rattle.bench_parts.specs.declared.line.LineFault.{LineFault}
use Rattle.bench_parts.specs.declared.line.LineFault.TheVariants as faults
use Rattle.bench_parts.specs.declared.system.Task.{Task}

-- the system of a head, with no row yet
abbrev pub first_task : Head → Task
first_task head = record {
  name = head.name;
  missing = head.rows;
  system = record { vars = head.variables; rows = [] };
}

-- one row more
abbrev pub task_with : Row → Task → Task
task_with row task = record {
  name = task.name;
  missing = task.missing - 1;
  system = record { vars = task.system.vars; rows = task.system.rows ++ row ∷ [] };
}

-- the open system behind a line, or why the line may not stand there: a head stands where no system is open, and a row with a coefficient for each variable where one is
abbrev pub open_behind : Option Task → Line → Result (Option Task) LineFault
open_behind task lines.Nothing = Ok task
open_behind None (lines.Head head) = Ok (Some (first_task head))
open_behind (Some task) (lines.Head head) = Err (faults.MissingRows task.missing)
open_behind None (lines.Row row) = Err faults.NoSystem
open_behind (Some task) (lines.Row row) = if length row.coefs == task.system.vars
    then Ok (Some (task_with row task))
    else Err (faults.WrongCount (length row.coefs) task.system.vars)

-- the numbers of a row are at most 2 ^ 126 in size
abbrev pub IsNarrowLine : Line → Type 0
IsNarrowLine lines.Nothing = Unit {0}
IsNarrowLine (lines.Head head) = Unit {0}
IsNarrowLine (lines.Row row) = IsNarrowRow row
