-- What contracts see of a table that is closed.
use Rattle.std.specs.Prelude.{ℕ, ℤ, ◌≡◌, ◌<◌, List, Option, Some, slice_get}
use Rattle.shared_words.specs.declared.roles.Stage.{Stage}
use Rattle.shared_words.specs.declared.roles.Stage.TheVariants.{Ended}
use Rattle.shared_words.specs.Homes.{Subject, plan_given, protocol_given}

-- for which program, plan and style it was made, how far the main seat had come with each processor's seat when it was closed, and what the cells held then
pub record End : Type 0 where
  pub given : Option Subject
  pub stages : List Stage
  pub memory : List ℤ

-- the seats of all the plan's processors had been taken in, all their acts done
abbrev pub HasEnded : End → Type 0
HasEnded e = (p : ℕ) → p < (plan_given e.given).workers → slice_get e.stages p ≡ Some Ended

-- its memory is the sequential program's last one
abbrev pub IsLast : End → Type 0
IsLast e = e.memory ≡ (protocol_given e.given).last
