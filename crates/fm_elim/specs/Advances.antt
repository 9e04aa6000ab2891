-- A level as its callers see it, and what it comes to when its next variable is removed.
use Rattle.std.specs.Prelude.{ℕ, ◌+◌, ◌-◌, ◌≤◌, ◌<◌, pos, List, ◌++◌, length, slice_index, ◌≡◌}
use Rattle.std.specs.List.{All}
use Rattle.farkas_cert.specs.declared.system.Row.{Row}
use Rattle.farkas_cert.specs.Inequalities.{Inequalities}
use Rattle.fm_elim.specs.declared.elimination.Level.{Level}
use Rattle.fm_elim.specs.declared.elimination.Advance.{Advance}
use Rattle.fm_elim.specs.declared.elimination.Advance.TheVariants as advances
use Rattle.fm_elim.specs.declared.answer.Answer.{Answer}
use Rattle.elim_rows.specs.Pairs.{coef_of}
use Rattle.fm_elim.specs.Lean.{IsLean}
use Rattle.elim_level.specs.Levels.{IsDerived}
pub use Rattle.elim_level.specs.Levels.{IsWork}
use Rattle.elim_level.specs.Logs.{rows_of}
use Rattle.fm_elim.specs.Answers.{NamesEachOnce, IsDecided, IfInfeasible, IfWide, IfMany, IfWork, IsFreeOfClashes}
use Rattle.fm_elim.specs.Reached.{IsReached}

-- the system
abbrev pub system_of : Level → Inequalities
system_of level = level.system.now

-- the order in which its variables are removed
abbrev pub order_of : Level → List ℕ
order_of level = level.order.now

-- how many of them are gone: the level's number
abbrev pub gone_of : Level → ℕ
gone_of level = level.gone

-- the rows that the level has
abbrev pub rows_in : Level → List Row
rows_in level = rows_of level.rows.rows.items

-- of how many pairs the levels from 1 up to it are formed
abbrev pub pairs_of : Level → ℕ
pairs_of level = level.pairs

-- the level is that of its system, of this number: its rows are exactly the derived rows, and it knows of how many pairs the levels up to it are formed
pub record IsLevel (level : Level) : Type 0 where
  pub order : NamesEachOnce (system_of level).vars (order_of level)
  pub gone : gone_of level ≤ length (order_of level)
  pub reached : IsReached (system_of level) (order_of level) (gone_of level) level.most
      level.log.items level.rows
  pub work : IsWork (system_of level) (order_of level) (gone_of level) (pairs_of level)
  pub soon : pairs_of level ≤ 65536

-- no level of this elimination from 1 on has had more rows
abbrev pub most_of : Level → ℕ
most_of level = level.most

-- the system has further rows behind those of the level's system, all without the variables that are gone, and the order begins with these; the levels stay within 20,000 rows
pub record IsExtension (level : Level) (whole : Inequalities) (order : List ℕ) : Type 0 where
  pub further : List Row
  pub vars : whole.vars ≡ (system_of level).vars
  pub rows : whole.rows ≡ (system_of level).rows ++ further
  pub begins : (j : ℕ) → j < gone_of level → slice_index (order_of level) j ≡ slice_index order j
  pub without : (j : ℕ) → j < gone_of level
      → All (λ r. coef_of (slice_index order j) r ≡ pos 0) further
  pub few : most_of level + length further ≤ 20000

-- one variable more is gone
pub record IsNextOf (old new : Level) : Type 0 where
  pub level : IsLevel new
  pub system : system_of new ≡ system_of old
  pub order : order_of new ≡ order_of old
  pub gone : gone_of new ≡ gone_of old + 1

-- elimination ends at this level with the answer
pub record IsAnswerAt (level : Level) (answer : Answer) : Type 0 where
  pub decided : IsDecided (system_of level) (order_of level) answer
  pub lean : IfInfeasible answer (λ c. IsLean (system_of level) c)
  pub wide : IfWide answer (λ k upper lower. (k ≡ gone_of level + 1)
      × IsFreeOfClashes (IsDerived (system_of level) (order_of level) (k - 1)))
  pub many : IfMany answer (λ k count. (k ≡ gone_of level + 1)
      × IsFreeOfClashes (IsDerived (system_of level) (order_of level) (k - 1)))
  pub work : IfWork answer (λ k pairs. (k ≡ gone_of level + 1)
      × IsFreeOfClashes (IsDerived (system_of level) (order_of level) (k - 1)))

-- the next level, or an answer
abbrev pub IsAdvance : Level → Advance → Type 0
IsAdvance level (advances.Level next) = IsNextOf level next
IsAdvance level (advances.Answer answer) = IsAnswerAt level answer
