use Rattle.std.proofs.Common.{◌≡◌, ◌++◌, drop}
use Rattle.f77_lines.specs.Texts.{text_from}
use Rattle.f77_lines.specs.Walk.{quoted_behind}
use Rattle.f77_lines.proofs.texts.Text.push_all.Given as goal

-- the text so far and that of the characters to come are all
abbrev pub invariant-loop-c : goal.invariant-loop-c
invariant-loop-c l = record {
  characters : l.self.characters.items ++ text_from l.self.quoted (drop l.c-index l.characters) ≡ l.initial.self.characters.items ++ text_from l.initial.self.quoted l.characters;
  quoted : quoted_behind l.self.quoted (drop l.c-index l.characters) ≡ quoted_behind l.initial.self.quoted l.characters;
}
