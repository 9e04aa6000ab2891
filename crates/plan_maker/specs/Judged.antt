-- Verdicts on systems one behind another.
use Rattle.std.specs.Global.{Vec}
use Rattle.std.specs.Prelude.{Bool, true, false, List, map, Option, Some, None}
use Rattle.owner_partition.specs.declared.anchor.Dist.{Dist}
use Rattle.nest_tree.specs.Tree.{Tree}
use Rattle.sync_plan.specs.declared.plan.Plan.{Plan}
use Rattle.comm_system.specs.Obligations.{Task}
use Rattle.comm_system.specs.Subjects.{Group, obligations_in}
use Rattle.comm_system.specs.declared.obligation.Obligation.{Obligation}
use Rattle.farkas_cert.specs.Good.{IsGood}
use Rattle.plan_maker.specs.Asked.{AreRefuted, Asked, IsCause, IsSaid, asked}
use Rattle.farkas_cert.specs.declared.certificate.Certificate.{Certificate}
use Rattle.plan_maker.specs.declared.cause.Cause.{Cause}
use Rattle.plan_maker.specs.declared.cause.Word.{Word}
use Rattle.plan_maker.specs.declared.verdict.Verdict.{Verdict}
use Rattle.plan_maker.specs.declared.verdict.Verdict.TheVariants.{Refuted, Kept}

-- an obligation without its number
abbrev pub task_of : Obligation → Task
task_of o = record {
  system = o.system;
  lines = o.lines;
  variable = o.variable;
  level = o.level;
  piece = o.piece;
  range = o.range;
}

abbrev pub asked_about : List Dist → Obligation → Asked
asked_about dists o = asked dists (task_of o)

-- what is asked about a pair of accesses
abbrev pub asked_in : Tree → Plan → List Dist → Group → List Asked
asked_in tree plan dists g = map (asked_about dists) (obligations_in tree plan g)

-- what is said of it where it is kept, by this word
abbrev pub cause_for : Obligation → Word → Cause
cause_for o word =
    record { lines = o.lines; variable = o.variable; level = o.level; piece = o.piece; word = word }

-- each is refuted, or this is the first that is kept
abbrev pub Judged : Type 0
Judged = Verdict (Vec Certificate) Cause

abbrev pub IsVerdict : List Asked → Judged → Type 0
IsVerdict questions (Refuted certificates) = AreRefuted questions certificates.items
IsVerdict questions (Kept cause) = IsCause questions cause

-- whether each is refuted; else one is kept
abbrev pub IsSettled : List Asked → Bool → Type 0
IsSettled questions true = (certificates : List Certificate) × AreRefuted questions certificates
IsSettled questions false = (cause : Cause) × IsCause questions cause

-- of one system
abbrev pub IsJudgement : Asked → Verdict Certificate Cause → Type 0
IsJudgement q (Refuted certificate) = IsGood q.task.system certificate
IsJudgement q (Kept cause) = IsSaid q cause

-- the certificates, and the first that is kept
abbrev pub certificates_in : Judged → Option (Vec Certificate)
certificates_in (Refuted certificates) = Some certificates
certificates_in (Kept cause) = None

abbrev pub cause_in : Judged → Option Cause
cause_in (Refuted certificates) = None
cause_in (Kept cause) = Some cause
