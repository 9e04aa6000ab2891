-- What a worker's cursor shows, and what it keeps.
use Rattle.std.specs.Prelude.{ℕ, ◌≡◌, ◌++◌, false, List, [], Some, None}
use Rattle.nest_tree.specs.Tree.{Tree}
use Rattle.sync_plan.specs.declared.plan.Plan.{Plan}
use Rattle.spmd_model.specs.declared.style.Style.TheVariants.{Arrive}
use Rattle.turns.specs.CounterTurns.{CounterTurn}
use Rattle.turns.specs.CountersLeft.{begun_by, counters_left}
use Rattle.turns.specs.Turns.{Standing, Turn, is_watched, no_phase, none_pending, places_pending, turns_by}
use Rattle.turns.specs.TurnsLeft.{AreSound, EndsPlainly, IsNext, turns_left, turns_plan, turns_processor, turns_style, turns_tree}
use Rattle.turns.specs.declared.turns.NextOrPhase.{NextOrPhase}
use Rattle.turns.specs.declared.turns.NextOrPhase.TheVariants as Coming
use Rattle.fork_join.specs.declared.cursor.Cursor.{Cursor}

-- the counter turns that are left, with the phases that begin among them
abbrev pub cursor_left : Cursor → List CounterTurn
cursor_left c = begun_by c.begins ++ counters_left c.turns.counters

-- and what is left to do
abbrev pub cursor_turns : Cursor → List Turn
cursor_turns c = turns_left c.turns

abbrev pub cursor_tree : Cursor → Tree
cursor_tree c = turns_tree c.turns

abbrev pub cursor_plan : Cursor → Plan
cursor_plan c = turns_plan c.turns

abbrev pub cursor_processor : Cursor → ℕ
cursor_processor c = turns_processor c.turns

-- a standing where no phase is looked at
abbrev pub IsUnseen : Standing → Type 0
IsUnseen s = (s.place ≡ no_phase) × (s.pending ≡ none_pending)

-- what is left to do is that of the counter turns, with no closing in front
pub record IsShut (c : Cursor) : Type 0 where
  pub standing : Standing
  pub none : places_pending standing.pending ≡ []
  pub unseen : is_watched Arrive (cursor_plan c) ≡ false → IsUnseen standing
  pub is : cursor_turns c ≡ turns_by Arrive (cursor_tree c) (cursor_plan c) (cursor_processor c)
      standing (cursor_left c)

pub record IsCursor (c : Cursor) : Type 0 where
  pub sound : AreSound c.turns
  pub arrives : turns_style c.turns ≡ Arrive
  pub shut : (e : ℕ) → c.begins ≡ Some e → IsShut c

-- what comes next
abbrev pub ComesNext : Cursor → NextOrPhase → Type 0
ComesNext c (Coming.Phase e) = c.begins ≡ Some e
ComesNext c (Coming.Turn next) = (c.begins ≡ None) × IsNext c.turns next × EndsPlainly c.turns next

-- of the same run
pub record IsSameCursor (old new : Cursor) : Type 0 where
  pub program : cursor_tree new ≡ cursor_tree old
  pub plan : cursor_plan new ≡ cursor_plan old
  pub processor : cursor_processor new ≡ cursor_processor old
