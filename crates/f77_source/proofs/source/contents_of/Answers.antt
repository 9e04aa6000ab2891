use Rattle.std.proofs.Common.{◌++◌, ◌∷◌, [], map, take, ap, sym, ◌∙◌}
use Rattle.std.proofs.lemmas.List.Concat.{flat_map-append}
use Rattle.f77_lines.specs.Listing.{entry_of}
use Rattle.f77_program.specs.Pieces.{names_view}
use Rattle.f77_scene.specs.Reading.{SourceStatement, directives_of, integers_among, integers_with, statements_in}
use Rattle.f77_source.specs.Sources.{source_of}
use Rattle.f77_source.proofs.Folded.{directives_of-push, statements_in-push, statements_in-none, entries_push}
use Rattle.f77_source.proofs.source.contents_of.Goals as goal

pub loop-line-init : goal.loop-line-init
loop-line-init c =
    record {
      sources = ap (map source_of) c.new.ensures.items ∙ sym statements_in-none;
      integers = c.new-2.ensures ∙ sym (ap (λ xs. integers_among (map source_of xs)) c.new.ensures.items);
      directives = ap names_view c.new-3.ensures.items;
    }

pub loop-line-preserved : goal.loop-line-preserved
loop-line-preserved c =
    let lines = c.args.lines.now in
    let i = c.loop-line.line-index in
    let line = c.line-item.result in
    let entries = map entry_of (take i lines) in
    let e = entry_of line in
    let more = entries_push lines i line c.loop-line-test.true c.line-item.is in
    let before = map source_of c.loop-line.contents.sources.items in
    let told = c.in_ok-push_line.ensures in
    record {
      sources = told.sources ∙ ap (λ ps. ps ++ statements_in (e ∷ [])) c.loop-line.invariant.sources ∙ sym (statements_in-push entries e) ∙ ap statements_in (sym more);
      integers = told.integers ∙ ap (λ ns. ns ++ integers_among (statements_in (e ∷ []))) c.loop-line.invariant.integers
          ∙ sym (flat_map-append (λ (p : SourceStatement). integers_with p.reading) before (statements_in (e ∷ []))) ∙ ap integers_among (sym told.sources);
      directives = told.directives ∙ ap (λ texts. texts ++ directives_of (e ∷ [])) c.loop-line.invariant.directives ∙ sym (directives_of-push entries e) ∙ ap directives_of (sym more);
    }
