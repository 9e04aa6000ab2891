use Rattle.std.proofs.Common.{List, map, reverse, ap, ◌∙◌}
use Rattle.std.proofs.lemmas.List.{reverse-reverse}
use Rattle.nest_tree.specs.Tree.{Constant, Declaration, Statements, Tree}
use Rattle.nest_tree.specs.View.{constant_of, declaration_of}
use Rattle.f77_program.specs.Pieces.{names_view}
use Rattle.f77_scene.specs.Reading.{declaration, variables_of, body_from}
use Rattle.f77_scene.specs.Scene.{first_scene}
use Rattle.f77_scene.specs.Trees.{first_body, in_a_row}
use Rattle.f77_source.specs.Sources.{source_of}
use Rattle.f77_source.proofs.Ended.{in_a_row-list}
use Rattle.f77_source.proofs.reader.assemble.Goals as goal

abbrev program_with : Statements → List Constant → List Declaration → Tree
program_with items params variables = record { items = items; params = params; variables = variables }

pub returns : goal.returns
returns c =
    let known = c.args.known.now in
    let ps = map source_of c.args.sources.now in
    let texts = names_view c.args.directives.now in
    let variables = c.in_ok-variables.ensures ∙ ap (map (declaration (reverse c.in_ok-directives.directives) known)) c.in_ok-names.ensures.names
    ∙ ap (λ ts. map (declaration ts known) (variables_of known)) (ap reverse c.in_ok-directives.ensures ∙ reverse-reverse texts) in
    λ given h.
    let items = in_a_row-list c.in_ok-items.items.items ∙ ap in_a_row (c.in_ok-items.ensures given h) ∙ ap (λ vs. in_a_row (body_from vs given first_scene ps first_body).items) c.in_ok-names.ensures.names in
    let whole = in_a_row (body_from (variables_of known) given first_scene ps first_body).items in
    ap (λ x. program_with x (map constant_of c.in_ok-params.params.items) (map declaration_of c.in_ok-variables.variables.items)) items
    ∙ ap (λ x. program_with whole x (map declaration_of c.in_ok-variables.variables.items)) c.in_ok-params.ensures ∙ ap (program_with whole known.constants) variables
