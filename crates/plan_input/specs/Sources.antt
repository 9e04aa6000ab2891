-- What stands on an input: a source, and what is behind its END line.
use Rattle.std.specs.Prelude.{ℕ, ℤ, List, [], drop}
use Rattle.f77_lines.specs.Columns.{lines_of}
use Rattle.f77_lines.specs.Listing.{size_to_end}
use Rattle.f77_scene.specs.Reading.{Reads}
use Rattle.f77_scene.specs.Scene.{Name}
use Rattle.nest_tree.specs.Limits.{IsWithinLimits}
use Rattle.nest_tree.specs.Tree.{Tree}

-- the bytes behind the line end of END
abbrev pub behind_end : List ℕ → List ℕ
behind_end bytes = drop (size_to_end (lines_of bytes)) bytes

-- The bytes begin with a source whose program is this one with these settings, and which is within its limits.
pub record HasProgramWith (settings : List (Name × ℤ)) (bytes : List ℕ) (tree : Tree) : Type 0 where
  pub reads : Reads bytes settings tree
  pub limits : IsWithinLimits tree

-- The same without settings.
abbrev pub HasProgram : List ℕ → Tree → Type 0
HasProgram bytes tree = HasProgramWith [] bytes tree
