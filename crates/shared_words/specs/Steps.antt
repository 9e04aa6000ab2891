-- What each kind of step does to words and seats that show a machine.
use Rattle.std.specs.Prelude.{ℕ, ◌+◌, ◌*◌, ◌≡◌, ◌≢◌, ◌≤◌, ◌<◌, ◌^◌, true, false, List, [], ◌∷◌, ◌++◌, Some, length, replicate, slice_get, slice_index, slice_set}
use mathlib.Core.Option.{some}
use lib.ListN.{get_elem?}
use Rattle.spmd_model.specs.Cells.{plus}
use Rattle.spmd_model.specs.Timelines.{Word, counter}
use Rattle.spmd_model.specs.Acts.{post, await, load, store, add}
use Rattle.spmd_model.specs.Lawful.{Moves}
use Rattle.spmd_model.specs.Protocols.{Protocol, act_at, arrivals_at, is_arrival}
use Rattle.nest_tree.specs.Tree.{Tree}
use Rattle.sync_plan.specs.declared.plan.Plan.{Plan}
use Rattle.spmd_model.specs.declared.style.Style.{Style}
use Rattle.spmd_model.specs.Laws.{Laws}
use Rattle.spmd_model.specs.PlanProtocols.{protocol_by}
use Rattle.shared_words.specs.declared.roles.Role.{Role}
use Rattle.shared_words.specs.declared.roles.Role.TheVariants.{Main, Cell, Spent}
use Rattle.shared_words.specs.declared.roles.Stage.{Stage}
use Rattle.shared_words.specs.declared.roles.Stage.TheVariants.{NotOut, Out, Ended}
use Rattle.shared_words.specs.Places.{behind, behind_row, settled_at}
use Rattle.shared_words.specs.Words.{arrival_word, word_count, word_of, word_value}
use Rattle.shared_words.specs.Shown.{AreOne}

-- behind the step these words show the machine too, where p has come to its place k and all others have stayed, and p's seat has so many misses, of which the last found this
pub record ComesTo {m : Protocol} {words : List ℕ} {roles : List Role}
    (before : AreOne m words roles) (after : List ℕ) (seat p k misses seen : ℕ) : Type 0 where
  pub one : AreOne m after (slice_set roles seat (Cell p k misses seen))
  pub moves : Moves before.at one.at p k

-- p has come behind its next act, number n, and those behind it that no other processor sees
abbrev pub GoesOn : {m : Protocol} {words : List ℕ} {roles : List Role} → AreOne m words roles
    → List ℕ → ℕ → ℕ → ℕ → Type 0
GoesOn {m} before after seat p n = ComesTo before after seat p (behind m p n) 0 0

-- ---- of a seat that is processor p's, behind its first n acts, in a table whose words and seats show the machine

abbrev pub IsSeatAt : List Role → ℕ → ℕ → ℕ → ℕ → ℕ → Type 0
IsSeatAt roles seat p n misses seen = get_elem? roles seat ≡ some (Cell p n misses seen)

abbrev pub LoadSteps : Protocol → Type 0
LoadSteps m =
    (words : List ℕ) (roles : List Role) (one : AreOne m words roles)
    (seat p n misses seen place cell : ℕ) → IsSeatAt roles seat p n misses seen
    → act_at m p n ≡ Some (load place cell) → cell < m.cells
    → GoesOn one words seat p n × (word_value (slice_index words cell) ≡ m.loaded_at p n)

abbrev pub StoreSteps : Protocol → Type 0
StoreSteps m =
    (words : List ℕ) (roles : List Role) (one : AreOne m words roles)
    (seat p n misses seen place cell word : ℕ) → IsSeatAt roles seat p n misses seen
    → act_at m p n ≡ Some (store place cell) → cell < m.cells
    → word_value word ≡ m.stored_at p n
    → GoesOn one (slice_set words cell word) seat p n

abbrev pub AddSteps : Protocol → Type 0
AddSteps m =
    (words : List ℕ) (roles : List Role) (one : AreOne m words roles)
    (seat p n misses seen place cell word : ℕ) → IsSeatAt roles seat p n misses seen
    → act_at m p n ≡ Some (add place cell) → cell < m.cells
    → word_value word ≡ plus (word_value (slice_index words cell)) (m.stored_at p n)
    → GoesOn one (slice_set words cell word) seat p n

-- a post that is no arrival, on the processor's own counter or signal
abbrev pub PostSteps : Protocol → Type 0
PostSteps m =
    (words : List ℕ) (roles : List Role) (one : AreOne m words roles) (w : Word)
    (seat p n misses seen number : ℕ) → IsSeatAt roles seat p n misses seen
    → act_at m p n ≡ Some (post w number) → is_arrival m.gathers w number ≡ false
    → GoesOn one (slice_set words (word_of m w p) number) seat p n

-- a poll that finds enough
abbrev pub PollSteps : Protocol → Type 0
PollSteps m =
    (words : List ℕ) (roles : List Role) (one : AreOne m words roles) (w : Word)
    (seat p n misses seen on wanted : ℕ) → IsSeatAt roles seat p n misses seen
    → act_at m p n ≡ Some (await w on wanted) → is_arrival m.gathers w wanted ≡ false
    → wanted ≤ slice_index words (word_of m w on) → GoesOn one words seat p n

-- a poll that finds this, which is too little
abbrev pub MissSteps : Protocol → Type 0
MissSteps m = (words : List ℕ) (roles : List Role) (one : AreOne m words roles)
    (seat p n misses seen found : ℕ) → IsSeatAt roles seat p n misses seen
    → ComesTo one words seat p n (misses + 1) found

-- an arrival, which the arrival word has room for
abbrev pub ArriveSteps : Protocol → Type 0
ArriveSteps m =
    (words : List ℕ) (roles : List Role) (one : AreOne m words roles)
    (seat p n misses seen number : ℕ) → IsSeatAt roles seat p n misses seen
    → act_at m p n ≡ Some (post counter number) → m.gathers number ≡ true
    → GoesOn one (slice_set words (arrival_word m) (slice_index words (arrival_word m) + 1)) seat p
    n × (slice_index words (arrival_word m) + 1 < 2 ^ 64)

-- a poll that finds all arrivals: all awaits at the barrier are done
abbrev pub GatherSteps : Protocol → Type 0
GatherSteps m =
    (words : List ℕ) (roles : List Role) (one : AreOne m words roles) (seat p n misses seen : ℕ)
    → IsSeatAt roles seat p n misses seen
    → m.workers * arrivals_at m p n ≤ slice_index words (arrival_word m)
    → ComesTo one words seat p (behind_row m p n) 0 0

-- ---- of the main seat

-- the seat of p is cut from it, at the first act that another processor may see
abbrev pub SplitSteps : Protocol → Type 0
SplitSteps m =
    (words : List ℕ) (roles : List Role) (one : AreOne m words roles) (seat p : ℕ)
    (stages : List Stage) → get_elem? roles seat ≡ some (Main stages)
    → slice_get stages p ≡ Some NotOut
    → (after : AreOne m words (slice_set roles seat (Main (slice_set stages p Out))
    ++ Cell p (settled_at m p 0) 0 0 ∷ [])) × (after.at ≡ one.at)

-- the seat of p is taken in, at the end of its acts
abbrev pub TakeSteps : Protocol → Type 0
TakeSteps m =
    (words : List ℕ) (roles : List Role) (one : AreOne m words roles)
    (seat other p n misses seen : ℕ) (stages : List Stage)
    → get_elem? roles seat ≡ some (Main stages) → other ≢ seat → n ≡ length (m.acts p)
    → get_elem? (slice_set roles seat (Main (slice_set stages p Ended))) other
    ≡ some (Cell p n misses seen)
    → (after : AreOne m words (slice_set (slice_set roles seat (Main (slice_set stages p Ended)))
    other Spent)) × (after.at ≡ one.at)

-- a seat more, which says nothing of processors
abbrev pub SpareSteps : Protocol → Type 0
SpareSteps m = (words : List ℕ) (roles : List Role) (one : AreOne m words roles)
    → (after : AreOne m words (roles ++ Spent ∷ [])) × (after.at ≡ one.at)

-- at first all words are 0, and no seat is out
abbrev pub Opens : Protocol → Type 0
Opens m = AreOne m (replicate (word_count m) 0) (Main (replicate m.workers NotOut) ∷ [])

-- the arrivals of two processors differ by at most one
abbrev pub AreClose : Protocol → Type 0
AreClose m = (words : List ℕ) (roles : List Role) (one : AreOne m words roles) (p q : ℕ)
    → p < m.workers → q < m.workers → arrivals_at m p (one.at p) ≤ arrivals_at m q (one.at q) + 1

-- ---- of every plan

-- of the protocol of every program under every plan in either style where the laws hold of it
abbrev pub Always : (Protocol → Type 0) → Type 0
Always Steps = (style : Style) (tree : Tree) (plan : Plan) → Laws (protocol_by style tree plan)
    → Steps (protocol_by style tree plan)
