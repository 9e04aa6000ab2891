-- An output and its room, and how many bytes the line of a PRINT has at most.
use Rattle.std.specs.Prelude.{ℕ, ◌+◌, ◌*◌, List, length, sum_by}
use Rattle.nest_tree.specs.Layout.{bounds_of, element_count}
use Rattle.nest_tree.specs.Tree.{Printed, value, whole, text, Work, assign, print, Tree}

-- the bytes so far, and how many there can be before memory is asked for
pub record Written : Type 0 where
  pub bytes : List ℕ
  pub room : ℕ

-- 21 for each number, and one more than each text has
abbrev pub longest_item : Tree → Printed → ℕ
longest_item tree (value e) = 21
longest_item tree (whole variable) = 21 * element_count (bounds_of tree variable)
longest_item tree (text characters) = 1 + length characters

abbrev pub longest_items : Tree → List Printed → ℕ
longest_items tree items = sum_by (longest_item tree) items

-- and the line end
abbrev pub longest_line : Tree → Work → ℕ
longest_line tree (assign a) = 0
longest_line tree (print p) = longest_items tree p.items + 1
