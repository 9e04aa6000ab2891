use Rattle.std.proofs.Common.{◌≡◌, map, take, reverse}
use Rattle.nest_tree.specs.View.{declaration_of}
use Rattle.f77_program.specs.Numbered.{texts_of}
use Rattle.f77_scene.specs.Reading.{declaration}
use Rattle.f77_source.proofs.variable.declarations.Given as goal

abbrev pub invariant-loop-name : goal.invariant-loop-name
invariant-loop-name l = map declaration_of l.variables.items ≡ map (declaration (reverse l.directives) l.known) (texts_of (take l.name-index l.name-items))
