use Rattle.std.proofs.Common.{◌≡◌, ◌++◌, length}
use Rattle.f77_lines.specs.Columns.{lines_of, body_of}
use Rattle.f77_lines.specs.Texts.{text_from, text_of}
use Rattle.f77_lines.specs.Statements.{continued}
use Rattle.f77_lines.proofs.texts.statement_text.Given as goal

-- the text so far and that of the continuation lines to come are all
abbrev pub invariant-loop-rest : goal.invariant-loop-rest
invariant-loop-rest l = l.text.characters.items ++ text_from l.text.quoted (continued (lines_of l.rest)) ≡ text_of (body_of l.columns ++ continued (lines_of l.behind))

abbrev pub decreases-loop-rest : goal.decreases-loop-rest
decreases-loop-rest l = length l.rest
