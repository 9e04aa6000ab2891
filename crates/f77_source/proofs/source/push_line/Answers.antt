use Rattle.std.proofs.Common.{◌++◌, ◌∷◌, [], map, ap, sym, ◌∙◌}
use Rattle.std.proofs.lemmas.List.{append-nil, map_push}
use Rattle.f77_lines.specs.Listing.{entry_of}
use Rattle.f77_program.specs.Pieces.{names_view}
use Rattle.f77_scene.specs.Reading.{directives_of, integers_among, integers_with, reading_of, statements_in}
use Rattle.f77_source.specs.Sources.{source_of}
use Rattle.f77_source.proofs.Folded.{statements_in-statement, statements_in-directive}
use Rattle.f77_source.proofs.source.push_line.Goals as goal

pub returns-in_ok-push-in-Statement : goal.returns-in_ok-push-in-Statement
returns-in_ok-push-in-Statement c =
    let front = map source_of c.args.contents.now.sources.items in
    let names = c.args.contents.now.integers in
    let texts = names_view c.args.contents.now.directives.items in
    let line = c.in-Statement.line in
    let label = c.in-Statement.label in
    let text = c.in-Statement.text.items in
    let is = c.in-Statement.is in
    let spoken = c.in_ok-reading_of-in-Statement.ensures ∙ ap reading_of c.as_slice.ensures.value in
    let listed = ap (λ x. statements_in (entry_of x ∷ [])) is ∙ statements_in-statement line label text in
    record {
      sources = ap (map source_of) c.in_ok-push-in-Statement.ensures.items ∙ map_push source_of c.args.contents.now.sources.items _
          ∙ ap (λ r. front ++ record { line = line; label = label; reading = r } ∷ []) spoken ∙ ap (λ ps. front ++ ps) (sym listed);
      integers = c.in_ok-push_integers-in-Statement.ensures ∙ ap (λ ns. names ++ ns) (ap integers_with spoken ∙ sym (append-nil (integers_with (reading_of text))) ∙ sym (ap integers_among listed));
      directives = sym (append-nil texts) ∙ ap (λ ts. texts ++ ts) (sym (ap (λ x. directives_of (entry_of x ∷ [])) is));
    }

pub returns-in_ok-push-in-Directive : goal.returns-in_ok-push-in-Directive
returns-in_ok-push-in-Directive c =
    let front = map source_of c.args.contents.now.sources.items in
    let names = c.args.contents.now.integers in
    let texts = names_view c.args.contents.now.directives.items in
    let line = c.in-Directive.line in
    let text = c.in-Directive.text.items in
    let is = c.in-Directive.is in
    let listed = ap (λ x. statements_in (entry_of x ∷ [])) is ∙ statements_in-directive line text in
    record {
      sources = sym (append-nil front) ∙ ap (λ ps. front ++ ps) (sym listed);
      integers = sym (append-nil names) ∙ ap (λ ns. names ++ ns) (sym (ap integers_among listed));
      directives = ap names_view c.in_ok-push-in-Directive.ensures.items ∙ map_push _ c.args.contents.now.directives.items _ ∙ ap (λ t. texts ++ t ∷ []) c.as_slice-in-Directive.ensures.value
          ∙ ap (λ ts. texts ++ ts) (sym (ap (λ x. directives_of (entry_of x ∷ [])) is));
    }
