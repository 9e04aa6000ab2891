-- Obligations that are looked for, and what is found of them.
use Rattle.std.specs.Prelude.{◌≡◌, ⊤, Bool, IsTrue, List, Option, Some, None}
use Rattle.std.specs.List.{Contains}
use Rattle.farkas_cert.specs.Good.{IsGood}
use Rattle.farkas_cert.specs.Inequalities.{Inequalities, IsWholeSolution}
use Rattle.farkas_cert.specs.declared.certificate.Certificate.{Certificate}
use Rattle.comm_system.specs.Obligations.{Task}
use Rattle.comm_system.specs.declared.obligation.Obligation.{Obligation}
use Rattle.plan_maker.specs.Judged.{task_of}
use Rattle.plan_maker.specs.declared.cause.Cause.{Cause}
use Rattle.reason_witness.specs.declared.found.Finding.{Finding}
use Rattle.reason_witness.specs.declared.found.Finding.TheVariants.{Solved, Refuted, Unknown}
use Rattle.reason_witness.specs.declared.found.Found.{Found}
use Rattle.reason_witness.specs.declared.found.Wanted.{Wanted}
use Rattle.reason_witness.specs.declared.found.Wanted.TheVariants.{First, Named, Number}

-- a system has a good certificate
abbrev pub IsCertified : Inequalities → Type 0
IsCertified system = (certificate : Certificate) × IsGood system certificate

-- what is found of an obligation: a whole solution solves its system, a refuted one has a good certificate, of the third nothing is said
abbrev pub IsFindingOf : Obligation → Finding → Type 0
IsFindingOf o (Solved point meeting) = IsWholeSolution o.system point
IsFindingOf o Refuted = IsCertified o.system
IsFindingOf o Unknown = ⊤

-- an obligation is of the lines, the variable, the level and the piece that a cause names
pub record IsNamed (cause : Cause) (o : Obligation) : Type 0 where
  pub lines : o.lines ≡ cause.lines
  pub variable : o.variable ≡ cause.variable
  pub level : o.level ≡ cause.level
  pub piece : o.piece ≡ cause.piece

-- an obligation is looked for: any, one that a cause names, the one with a number
abbrev pub IsWanted : Wanted → Obligation → Type 0
IsWanted First o = ⊤
IsWanted (Named cause) o = IsNamed cause o
IsWanted (Number n) o = o.number ≡ n

-- one of which this is found is told: the one with a number whatever is found of it, and of others none that is refuted
abbrev pub MayStand : Finding → Type 0
MayStand (Solved point meeting) = ⊤
MayStand Refuted = ⊥
MayStand Unknown = ⊤

abbrev pub IsTaken : Wanted → Finding → Type 0
IsTaken First finding = MayStand finding
IsTaken (Named cause) finding = MayStand finding
IsTaken (Number n) finding = ⊤

-- one that is looked for isn't told: it has a good certificate; the one with a number is always told
abbrev pub IsPassed : Wanted → Obligation → Type 0
IsPassed First o = IsCertified o.system
IsPassed (Named cause) o = IsCertified o.system
IsPassed (Number n) o = ⊥

-- one of these obligations that is looked for and is told, and what is found of it
pub record IsFoundIn (all : List Obligation) (wanted : Wanted) (f : Found) : Type 0 where
  pub among : Contains all f.obligation
  pub wanted_is : IsWanted wanted f.obligation
  pub taken : IsTaken wanted f.finding
  pub found : IsFindingOf f.obligation f.finding

-- none of these is told: each that is looked for has a good certificate
abbrev pub AreCertified : List Obligation → Wanted → Type 0
AreCertified all wanted = (o : Obligation) → Contains all o → IsWanted wanted o → IsPassed wanted o

-- the same of obligations without their numbers, of which none is looked for by its number
pub record IsFoundUnder (all : List Task) (wanted : Wanted) (f : Found) : Type 0 where
  pub among : Contains all (task_of f.obligation)
  pub wanted_is : IsWanted wanted f.obligation
  pub taken : IsTaken wanted f.finding
  pub found : IsFindingOf f.obligation f.finding

abbrev pub IsSought : Wanted → Obligation → Type 0
IsSought First o = ⊤
IsSought (Named cause) o = IsNamed cause o
IsSought (Number n) o = ⊥

abbrev pub AreCertifiedUnder : List Task → Wanted → Type 0
AreCertifiedUnder all wanted =
    (o : Obligation) → Contains all (task_of o) → IsSought wanted o → IsCertified o.system

-- what a search comes to: one that is told; or none, where it looked at all
abbrev pub IsSearched : Bool → List Obligation → Wanted → Option Found → Type 0
IsSearched is_whole all wanted (Some f) = IsFoundIn all wanted f
IsSearched is_whole all wanted None = IsTrue is_whole → AreCertified all wanted

abbrev pub IsSearchedUnder : Bool → List Task → Wanted → Option Found → Type 0
IsSearchedUnder is_whole all wanted (Some f) = IsFoundUnder all wanted f
IsSearchedUnder is_whole all wanted None = IsTrue is_whole → AreCertifiedUnder all wanted
