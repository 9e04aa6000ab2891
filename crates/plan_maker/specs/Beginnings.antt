-- Levels with which several systems begin.
use Rattle.std.specs.Prelude.{◌≡◌, ℕ, List, pos}
use Rattle.std.specs.List.{All}
use Rattle.farkas_cert.specs.Narrow.{AreNarrow}
use Rattle.farkas_cert.specs.declared.system.Row.{Row}
use Rattle.farkas_cert.specs.Inequalities.{Inequalities}
use Rattle.fm_elim.specs.declared.elimination.Level.{Level}
use Rattle.fm_elim.specs.Advances.{IsLevel, gone_of, order_of, system_of}
use Rattle.fm_elim.specs.Answers.{NamesEachOnce}
use Rattle.fm_elim.specs.Pairs.{coef_of}
use Rattle.plan_maker.specs.declared.beginnings.Beginning.{Beginning}
use Rattle.plan_maker.specs.declared.beginnings.Prefix.{Prefix}

-- the row has none of these unknowns
abbrev pub IsWithout : List ℕ → Row → Type 0
IsWithout unknowns row = All (λ v. coef_of v row ≡ pos 0) unknowns

-- a level of the system in this order
pub record IsLevelOf (s : Inequalities) (o : List ℕ) (l : Level) : Type 0 where
  pub level : IsLevel l
  pub system : system_of l ≡ s
  pub order : order_of l ≡ o

-- elimination can be asked of its rows
pub record IsPrefix (f : Prefix) : Type 0 where
  pub once : NamesEachOnce f.rows.vars f.order.items
  pub narrow : AreNarrow f.rows.rows

-- a level of its rows in its order, without so many unknowns
pub record IsBeginning (b : Beginning) : Type 0 where
  pub level : IsLevel b.level
  pub system : system_of b.level ≡ b.rows.now
  pub order : order_of b.level ≡ b.order.now
  pub gone : gone_of b.level ≡ b.gone
