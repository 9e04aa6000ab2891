use Rattle.std.proofs.Common.{◌≡◌, ◌+◌, ◌-◌, None, Option, length, map, drop, ap, sym, subst, ◌∙◌, arith}
use Rattle.std.proofs.lemmas.List.{drop_all, length-map, length-drop}
use Rattle.std.proofs.lemmas.Result.{err_from_is_err_and}
use Rattle.std.specs.Option.{option_or}
use Rattle.f77_program.specs.Wholes.{given_of}
use Rattle.f77_scene.specs.Fault as scene
use Rattle.f77_scene.specs.Reading.{at_line, fault_with, scene_with, fault_from, scene_from}
use Rattle.f77_source.specs.Answers.{Refuses}
use Rattle.f77_source.specs.Sources.{source_of}
use Rattle.f77_source.proofs.Folded.{fault_from-more, fault_from-none, scene_from-more, scene_from-none, sources_more, passes, refuses_first}
use Rattle.f77_source.proofs.check.check.Goals as goal

pub returns-in_err-pass-clause-refused : goal.returns-in_err-pass-clause-refused
returns-in_err-pass-clause-refused c =
    let given = given_of c.args.whole.now in
    let s = c.loop-place.known in
    let i = c.loop-place.place in
    let sources = c.args.sources.now in
    let source = c.index-sources-place.result in
    let p = source_of source in
    let ps = map source_of (drop (i + 1) sources) in
    let e = c.in_err-pass.field-0.0 in
    let rest = fault_from given (scene_with given s p.label p.reading) ps in
    let count : length sources - i - 1 ≡ length ps = omega (arith, length-map (drop (i + 1) sources) source_of, length-drop (i + 1) sources) in
    let whole = sym c.loop-place.invariant.fault ∙ ap (fault_from given s) (sources_more sources i source c.loop-place-test.true c.index-sources-place.is) ∙ fault_from-more given s p ps in
    let first = ap (λ k. at_line p.line (fault_with given s k p.label p.reading)) count in
    let told = refuses_first (at_line p.line (fault_with given s (length sources - i - 1) p.label p.reading)) rest e c.in_err-pass.ensures.refused in
    let same = ap (λ o. option_or o rest) first ∙ sym whole in
    let result = err_from_is_err_and c.from_residual.result c.from_residual.ensures.1 in
    rw (result.1, result.2) (subst (λ (o : Option scene.Refusal). Refuses o e) same told)

pub loop-place-preserved : goal.loop-place-preserved
loop-place-preserved c =
    let given = given_of c.args.whole.now in
    let s = c.loop-place.known in
    let i = c.loop-place.place in
    let sources = c.args.sources.now in
    let source = c.index-sources-place.result in
    let p = source_of source in
    let ps = map source_of (drop (i + 1) sources) in
    let count : length sources - i - 1 ≡ length ps = omega (arith, length-map (drop (i + 1) sources) source_of, length-drop (i + 1) sources) in
    let more = sources_more sources i source c.loop-place-test.true c.index-sources-place.is in
    let none : fault_with given s (length ps) p.label p.reading ≡ None = ap (λ k. fault_with given s k p.label p.reading) (sym count) ∙ c.in_ok-pass.ensures.faultless in
    record {
      fault = ap (λ x. fault_from given x ps) c.in_ok-pass.ensures.known ∙ sym (passes given s p ps none) ∙ ap (fault_from given s) (sym more) ∙ c.loop-place.invariant.fault;
      scene = ap (λ x. scene_from given x ps) c.in_ok-pass.ensures.known ∙ sym (scene_from-more given s p ps) ∙ ap (scene_from given s) (sym more) ∙ c.loop-place.invariant.scene;
      within = c.in_ok-pass.ensures.within;
    }

pub returns-clause-known : goal.returns-clause-known
returns-clause-known c =
    let given = given_of c.args.whole.now in
    let s = c.loop-place.known in
    let none = drop_all c.loop-place.place c.args.sources.now c.loop-place-test.false in
    sym (scene_from-none given s) ∙ ap (λ xs. scene_from given s (map source_of xs)) (sym none) ∙ c.loop-place.invariant.scene

pub returns-clause-faultless : goal.returns-clause-faultless
returns-clause-faultless c =
    let given = given_of c.args.whole.now in
    let s = c.loop-place.known in
    let none = drop_all c.loop-place.place c.args.sources.now c.loop-place-test.false in
    sym c.loop-place.invariant.fault ∙ ap (λ xs. fault_from given s (map source_of xs)) none ∙ fault_from-none given s
