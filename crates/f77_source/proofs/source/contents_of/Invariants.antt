use Rattle.std.proofs.Common.{◌≡◌, map, take}
use Rattle.f77_lines.specs.Listing.{entry_of}
use Rattle.f77_program.specs.Pieces.{names_view}
use Rattle.f77_scene.specs.Reading.{directives_of, integers_among, statements_in}
use Rattle.f77_source.specs.Sources.{source_of}
use Rattle.f77_source.proofs.source.contents_of.Given as goal

abbrev pub invariant-loop-line : goal.invariant-loop-line
invariant-loop-line l = record {
  sources : map source_of l.contents.sources.items ≡ statements_in (map entry_of (take l.line-index l.lines));
  integers : l.contents.integers ≡ integers_among (map source_of l.contents.sources.items);
  directives : names_view l.contents.directives.items ≡ directives_of (map entry_of (take l.line-index l.lines));
}
