-- The rule of the table, and what its steps tell.
use Rattle.std.specs.Prelude.{ℕ, ◌+◌, ◌*◌, ◌≡◌, nat_le, false, List, map, Option, Some, None, replicate, slice_index, slice_set, if◌then◌else◌}
use mathlib.Core.Option.{some}
use lib.ListN.{get_elem?}
use Rattle.atomic_table.specs.Table.{State, Me, Step}
use Rattle.spmd_model.specs.Free.{IsInVain}
use Rattle.spmd_model.specs.Acts.{Act, post, await, load, store, add, print}
use Rattle.spmd_model.specs.Protocols.{Protocol, act_at, arrivals_at}
use Rattle.shared_words.specs.declared.view.Given.{Given}
use Rattle.shared_words.specs.declared.roles.Role.{Role}
use Rattle.shared_words.specs.declared.roles.Role.TheVariants.{Main, Cell, Spent, Over}
use Rattle.shared_words.specs.declared.roles.Stage.{Stage}
use Rattle.shared_words.specs.declared.roles.Stage.TheVariants.{NotOut, Out, Ended}
use Rattle.shared_words.specs.declared.view.View.{View}
use Rattle.shared_words.specs.declared.view.View.TheVariants.{Seated, Away}
use Rattle.shared_words.specs.Places.{behind, behind_row, settled_at}
use Rattle.shared_words.specs.Words.{word_value}
use Rattle.shared_words.specs.Shown.{AreOne}
use Rattle.shared_words.specs.Vain.{AreReached}
use Rattle.shared_words.specs.Homes.{Subject, known_in, protocol_given, protocol_in, processor_of, position_of, role_in}

abbrev pub roles_in : List View → List Role
roles_in views = map role_in views

-- a seat is of this program, plan and style
abbrev pub IsAtHome : Subject → View → Type 0
IsAtHome subject (Seated program plan style known role) = (program, (plan, style)) ≡ subject
IsAtHome subject Away = Unit {0}

abbrev pub AreAtHome : Subject → List View → Type 0
AreAtHome subject views = (j : ℕ) (v : View) → get_elem? views j ≡ some v → IsAtHome subject v

-- those of a table
abbrev pub subject_of : Given → Subject
subject_of k = (k.program.now, (k.plan.now, k.style))

abbrev pub table_protocol : Given → Protocol
table_protocol k = protocol_given (Some (subject_of k))

-- between any two steps the words and the seats show a state of the machine, whose processors have come to the places that each seat knows
pub record Shown {S : Type 0} (k : Given) (s : State S View) : Type 0 where
  pub one : AreOne (table_protocol k) s.words (roles_in s.views)
  pub home : AreAtHome (subject_of k) s.views
  pub reached : (j : ℕ) (v : View) → get_elem? s.views j ≡ some v
      → AreReached (table_protocol k) (slice_index (known_in v)) one.at

abbrev pub first_view : Given → View
first_view k = Seated k.program.now k.plan.now k.style (replicate k.plan.now.workers 0)
    (Main (replicate k.plan.now.workers NotOut))

abbrev pub with_role : View → Role → View
with_role (Seated program plan style known old) r = Seated program plan style known r
with_role Away r = Away

-- behind the processor's next act
abbrev pub goes_to : Protocol → Role → Role
goes_to m (Main stages) = Main stages
goes_to m (Cell p n misses seen) = Cell p (behind m p n) 0 0
goes_to m Spent = Spent
goes_to m Over = Over

-- the number that an act awaits, 0 where it awaits none
abbrev pub wanted_by : Option Act → ℕ
wanted_by None = 0
wanted_by (Some (post word number)) = 0
wanted_by (Some (await word on wanted)) = wanted
wanted_by (Some (load place cell)) = 0
wanted_by (Some (store place cell)) = 0
wanted_by (Some (add place cell)) = 0
wanted_by (Some (print place)) = 0

-- a poll goes on where it found enough; another one is a miss, which keeps what it found
abbrev pub polls_to : Protocol → Role → ℕ → Role
polls_to m (Main stages) found = Main stages
polls_to m (Cell p n misses seen) found = if nat_le (wanted_by (act_at m p n)) found
    then Cell p (behind m p n) 0 0
    else Cell p n (misses + 1) found
polls_to m Spent found = Spent
polls_to m Over found = Over

-- a poll of all arrivals goes on behind all awaits of the barrier
abbrev pub rows_to : Protocol → Role → ℕ → Role
rows_to m (Main stages) found = Main stages
rows_to m (Cell p n misses seen) found = if nat_le (m.workers * arrivals_at m p n) found
    then Cell p (behind_row m p n) 0 0
    else Cell p n (misses + 1) found
rows_to m Spent found = Spent
rows_to m Over found = Over

-- p's seat is taken out, or taken in
abbrev pub staged : ℕ → Stage → Role → Role
staged p stage (Main stages) = Main (slice_set stages p stage)
staged p stage (Cell q n misses seen) = Cell q n misses seen
staged p stage Spent = Spent
staged p stage Over = Over

-- not all that the seat's processor awaits with its next act was posted at the places that the seat knows
abbrev pub IsVainAt : View → Type 0
IsVainAt v = IsInVain (protocol_in v).acts (slice_index (known_in v)) (processor_of (role_in v))
    (position_of (role_in v))

-- what a poll of this number finds is enough, or was in vain
abbrev pub VainWhere : View → (wanted found : ℕ) → Type 0
VainWhere v wanted found = nat_le wanted found ≡ false → IsVainAt v

module _ {S : Type 0} where
  abbrev pub loads : Step S → Me S View → ℕ → Me S View → Type 0
  loads s v found w = (w ≡ (with_role v.0 (goes_to (protocol_in v.0) (role_in v.0)), v.1))
      × (word_value found ≡ (protocol_in v.0).loaded_at (processor_of (role_in v.0))
      (position_of (role_in v.0)))

  abbrev pub goes : Step S → Me S View → ℕ → Me S View → Type 0
  goes s v found w = (w ≡ (with_role v.0 (goes_to (protocol_in v.0) (role_in v.0)), v.1)) × Unit {0}

  abbrev pub polls : Step S → Me S View → ℕ → Me S View → Type 0
  polls s v found w = (w ≡ (with_role v.0 (polls_to (protocol_in v.0) (role_in v.0) found), v.1))
      × VainWhere v.0 (wanted_by (act_at (protocol_in v.0) (processor_of (role_in v.0))
      (position_of (role_in v.0)))) found

  abbrev pub rows : Step S → Me S View → ℕ → Me S View → Type 0
  rows s v found w = (w ≡ (with_role v.0 (rows_to (protocol_in v.0) (role_in v.0) found), v.1))
      × VainWhere v.0 ((protocol_in v.0).workers
      * arrivals_at (protocol_in v.0) (processor_of (role_in v.0)) (position_of (role_in v.0)))
      found

abbrev pub taken_out : ℕ → View → View
taken_out p v = with_role v (staged p Out (role_in v))

abbrev pub first_of : ℕ → View → View
first_of p v = with_role v (Cell p (settled_at (protocol_in v) p 0) 0 0)

abbrev pub taken_in : View → View → View
taken_in v w = with_role v (staged (processor_of (role_in w)) Ended (role_in v))

-- ---- seats tell each other what they know

-- places that are known, with that of a processor's seat
abbrev pub noted : Role → List ℕ → List ℕ
noted (Main stages) known = known
noted (Cell p n misses seen) known = slice_set known p n
noted Spent known = known
noted Over known = known

-- a seat that knows what this one knows, and is nobody's
abbrev pub told : View → View
told v = with_role v Spent

-- a seat that has learnt it, and adds its own place
abbrev pub learnt : View → View → View
learnt (Seated program plan style known role) w =
    Seated program plan style (noted role (known_in w)) role
learnt Away w = Away
