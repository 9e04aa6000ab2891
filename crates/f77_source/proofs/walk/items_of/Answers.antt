use Rattle.std.proofs.Common.{◌≡◌, ◌+◌, List, [], ◌∷◌, map, drop, ap, sym, subst, ◌∙◌}
use Rattle.std.proofs.lemmas.List.{drop_all}
use Rattle.f77_scene.specs.Reading.{SourceStatement, body_from}
use Rattle.f77_scene.specs.Scene.{first_scene}
use Rattle.f77_scene.specs.Trees.{Body, first_body}
use Rattle.f77_source.specs.Bodies.{body_of}
use Rattle.f77_source.specs.Sources.{source_of}
use Rattle.f77_source.proofs.Folded.{body_from-none, sources_more}
use Rattle.f77_source.proofs.Staged.{Walked, stands_loops, stands_within, walked_first, walked_next}
use Rattle.f77_source.proofs.walk.items_of.Goals as goal

pub loop-source-init : goal.loop-source-init
loop-source-init c =
    λ given h. walked_first c.args.variables.now given c.args.known.now c.rewind.new.self (body_of c.new-body.result) (map source_of c.args.sources.now) h c.rewind.ensures c.new-body.ensures

pub add_source-requires-clause-loops : goal.add_source-requires-clause-loops
add_source-requires-clause-loops c =
    let given = c.requires.passed.0 in
    let walked = c.loop-source.invariant given c.requires.passed.1 in
    stands_loops given c.args.known.now c.loop-source.known walked.s (map source_of (drop c.loop-source.source-index c.args.sources.now)) walked.stands

pub add_source-requires-clause-affine : goal.add_source-requires-clause-affine
add_source-requires-clause-affine c =
    let variables = c.args.variables.now in
    let given = c.requires.passed.0 in
    let last = c.args.known.now in
    let w = c.loop-source.known in
    let body = body_of c.loop-source.body in
    let i = c.loop-source.source-index in
    let sources = c.args.sources.now in
    let all = map source_of sources in
    let source = c.source-item.result in
    let p = source_of source in
    let ps = map source_of (drop (i + 1) sources) in
    let more = sources_more sources i source c.loop-source-test.true c.source-item.is in
    let at : Walked variables given last w body all (p ∷ ps) = subst (λ (xs : List SourceStatement). Walked variables given last w body all xs) more (c.loop-source.invariant given c.requires.passed.1) in
    stands_within given last w at.s p.line p.label p.reading ps at.stands

pub loop-source-preserved : goal.loop-source-preserved
loop-source-preserved c =
    let variables = c.args.variables.now in
    let last = c.args.known.now in
    let w = c.loop-source.known in
    let body = body_of c.loop-source.body in
    let i = c.loop-source.source-index in
    let sources = c.args.sources.now in
    let all = map source_of sources in
    let source = c.source-item.result in
    let p = source_of source in
    let ps = map source_of (drop (i + 1) sources) in
    let more = sources_more sources i source c.loop-source-test.true c.source-item.is in
    λ given h.
    let at : Walked variables given last w body all (p ∷ ps) = subst (λ (xs : List SourceStatement). Walked variables given last w body all xs) more (c.loop-source.invariant given h) in
    walked_next variables given last w c.add_source.new.known body (body_of c.add_source.new.body) all p ps at c.in_ok-add_source.ensures.known c.in_ok-add_source.ensures.body

pub returns : goal.returns
returns c =
    let variables = c.args.variables.now in
    let body = body_of c.loop-source.body in
    let all = map source_of c.args.sources.now in
    let none = drop_all c.loop-source.source-index c.args.sources.now c.loop-source-test.false in
    λ given h.
    let walked = c.loop-source.invariant given h in
    let tree : body_from variables given walked.s [] body ≡ body_from variables given first_scene all first_body =
    ap (λ xs. body_from variables given walked.s (map source_of xs) body) (sym none) ∙ walked.tree in
    ap (λ (b : Body). b.items) (sym (body_from-none variables given walked.s body) ∙ tree)
