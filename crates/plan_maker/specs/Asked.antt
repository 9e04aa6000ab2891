-- What elimination is asked of a plan: its systems one behind another, each with its owners, which say in which order its unknowns are removed; and what is known of the answers.
use Rattle.std.specs.Prelude.{ℕ, ℤ, ◌≡◌, ◌⊎◌, List, [], ◌∷◌, map, take, slice_get, Option, Some, None}
use Rattle.std.specs.List.{AllZip, flat_map}
use Rattle.farkas_cert.specs.declared.certificate.Certificate.{Certificate}
use Rattle.farkas_cert.specs.Good.{IsGood}
use Rattle.farkas_cert.specs.Inequalities.{Inequalities, IsWholeSolution}
use Rattle.fm_elim.specs.declared.answer.Answer.{Answer}
use Rattle.fm_elim.specs.declared.answer.Answer.TheVariants as answers
use Rattle.fm_elim.specs.Answers.{IsKept}
use Rattle.presolve.specs.Presolution.{IsPresolved, Presolution}
use Rattle.nest_tree.specs.Tree.{Tree}
use Rattle.owner_partition.specs.declared.anchor.Anchor.{Anchor}
use Rattle.owner_partition.specs.declared.anchor.Dist.{Dist}
use Rattle.sync_plan.specs.declared.plan.Plan.{Plan}
use Rattle.comm_system.specs.Boundaries.{Side}
use Rattle.comm_system.specs.Obligations.{Slot, Task, anchor_at, paths_tasks, slot_tasks, trips_tasks}
use Rattle.comm_system.specs.References.{StaticPhase, phases_of}
use Rattle.comm_system.specs.Signatures.{Signature, blocked, waits}
use Rattle.plan_maker.specs.declared.cause.Cause.{Cause}
use Rattle.plan_maker.specs.declared.cause.Word.{Word}
use Rattle.plan_maker.specs.declared.cause.Word.TheVariants.{Open, Wide, Many, Work, Spent}
use Rattle.plan_maker.specs.Orders.{elimination_order}
use Rattle.plan_maker.specs.PlanWork.{IsUsedUp}

-- a system whose owners are dealt so
pub record Asked : Type 0 where
  pub task : Task
  pub dists : List Dist

abbrev pub asked : List Dist → Task → Asked
asked dists k = record { task = k; dists = dists }

-- of two trips of a Doall phase, which have no owners
abbrev pub trips_asked : Tree → Plan → StaticPhase → List Asked
trips_asked tree plan s = map (asked []) (trips_tasks tree plan s)

-- how the owners of a slot are dealt, and then the producers
abbrev pub owners_dealt : Plan → Slot → List (Anchor × Side) → List Dist
owners_dealt plan slot producers =
    (anchor_at plan slot.s).dist ∷ (anchor_at plan slot.t).dist ∷ map (λ p. p.0.dist) producers

-- of a slot, by what it sees of the kinds
abbrev pub slot_asked : Tree → Plan → Slot → Signature → List Asked
slot_asked tree plan slot blocked = []
slot_asked tree plan slot (waits left right producers) = map
    (asked (owners_dealt plan slot producers))
    (slot_tasks tree plan slot (waits left right producers))

-- of two trips of all Doall phases of a plan
abbrev pub all_trips_asked : Tree → Plan → List Asked
all_trips_asked tree plan = flat_map (trips_asked tree plan) (phases_of tree plan.cut.marks)

-- of the paths of the private scalars of a phase, and of all phases of a plan
abbrev pub paths_asked : Tree → Plan → StaticPhase → List Asked
paths_asked tree plan s = map (asked []) (paths_tasks tree plan s)

abbrev pub all_paths_asked : Tree → Plan → List Asked
all_paths_asked tree plan = flat_map (paths_asked tree plan) (phases_of tree plan.cut.marks)

-- each of them has a good certificate
abbrev pub AreRefuted : List Asked → List Certificate → Type 0
AreRefuted questions certificates = AllZip (λ q c. IsGood q.task.system c) questions certificates

-- the word for an answer by which a system is kept
abbrev pub word_for : Answer → Option Word
word_for (answers.Infeasible certificate) = None
word_for answers.Open = Some Open
word_for (answers.Wide level upper lower) = Some Wide
word_for (answers.Many level count) = Some Many
word_for (answers.Work level pairs) = Some Work

-- elimination in this order keeps the system, by an answer with this word
abbrev pub IsKeptBy : Inequalities → List ℕ → Word → Type 0
IsKeptBy system order word =
    (answer : Answer) × IsKept system order answer × (word_for answer ≡ Some word)

-- a whole solution of the system is known, and the word is Open
abbrev pub IsWitnessed : Inequalities → Word → Type 0
IsWitnessed system word = (x : List ℤ) × IsWholeSolution system x × (word ≡ Open)

-- the plan's work was used up before it was decided, and the word is Spent
abbrev pub IsLeftOut : Word → Type 0
IsLeftOut word = IsUsedUp × (word ≡ Spent)

-- why a system is kept, with this word: elimination in this order answers so, a whole solution is a witness, or it wasn't decided
abbrev pub IsKeptAs : Inequalities → List ℕ → Word → Type 0
IsKeptAs system order word = IsKeptBy system order word ⊎ (IsWitnessed system word ⊎ IsLeftOut word)

-- elimination keeps what is left of a system whose owners are dealt so, without rows and columns that play no part: its unknowns are removed in their order
pub record IsLeftKept (system : Inequalities) (dists : List Dist) (word : Word) : Type 0 where
  pub left : Presolution
  pub presolved : IsPresolved system left
  pub kept : IsKeptBy left.system (elimination_order left.system.vars dists) word

-- why a system is kept whose owners are dealt so: elimination keeps what is left of it, a whole solution of the system is a witness, or it wasn't decided
abbrev pub IsKeptOf : Inequalities → List Dist → Word → Type 0
IsKeptOf system dists word =
    IsLeftKept system dists word ⊎ (IsWitnessed system word ⊎ IsLeftOut word)

-- what is said of a system that is kept
pub record IsSaid (q : Asked) (cause : Cause) : Type 0 where
  pub kept : IsKeptOf q.task.system q.dists cause.word
  pub lines : cause.lines ≡ q.task.lines
  pub variable : cause.variable ≡ q.task.variable
  pub level : cause.level ≡ q.task.level
  pub piece : cause.piece ≡ q.task.piece

-- the first of these that isn't refuted: those before it have good certificates, and it is kept
pub record IsCause (questions : List Asked) (cause : Cause) : Type 0 where
  pub place : ℕ
  pub certificates : List Certificate
  pub before : AreRefuted (take place questions) certificates
  pub question : Asked
  pub at : slice_get questions place ≡ Some question
  pub said : IsSaid question cause
