-- The codes of all that a program assigns, by the number of the piece of work.
use Rattle.std.specs.Prelude.{ℕ, ◌≤◌, List}
use Rattle.std.specs.List.{All, AllZip}
use Rattle.nest_tree.specs.Tree.{assign, print, do_loop, work, continue, Statement, Tree}
use Rattle.nest_walk.specs.Texts.{Placed, works}
use Rattle.flat_code.specs.Codes.{IsCodeOf, registers_of}
use Rattle.flat_code.specs.declared.code.Code.{Code}
use Rattle.flat_code.specs.declared.table.CodeTable.{CodeTable}

-- the code of what a statement assigns, where it is an assignment
abbrev pub IsCodeIn : Statement → Code → Type 0
IsCodeIn (do_loop head body) code = Unit
IsCodeIn (work (assign a)) code = IsCodeOf a.value code
IsCodeIn (work (print p)) code = Unit
IsCodeIn (continue line) code = Unit

abbrev pub HasCode : Placed → Code → Type 0
HasCode p code = IsCodeIn p.what code

-- what a table has, in the order of the pieces of work in the text
abbrev pub codes_of : CodeTable → List Code
codes_of table = table.codes.items

-- so many registers are enough for each
abbrev pub most_registers : CodeTable → ℕ
most_registers table = table.most

-- a table has the code of each assignment of a program
pub record IsCodeTable (tree : Tree) (table : CodeTable) : Type 0 where
  pub each : AllZip HasCode (works tree) (codes_of table)
  pub room : All (λ code. registers_of code ≤ most_registers table) (codes_of table)
