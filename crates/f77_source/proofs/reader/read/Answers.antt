use Rattle.std.proofs.Common.{◌≡◌, ◌∙◌, None, map, arith, ap, sym, subst}
use Rattle.std.proofs.lemmas.Grind.{common_steps}
use Rattle.nest_tree.specs.View.{tree_of_draft}
use Rattle.f77_lines.specs.Listing.{entry_of}
use Rattle.f77_program.specs.Pieces.{names_view}
use Rattle.f77_program.specs.Wholes.{given_of}
use Rattle.f77_scene.specs.Reading.{bad_setting_from, directives_of, given_with, integers_among, statements_in}
use Rattle.f77_scene.specs.Scene.{constant_names}
use Rattle.f77_source.specs.Sources.{setting_of, source_of}
use Rattle.f77_source.specs.Stages.{ArePassed}
use Rattle.f77_source.proofs.Listed.{program_listed}
use Rattle.f77_source.proofs.reader.read.Goals as goal

pub assemble-requires-clause-passed : goal.assemble-requires-clause-passed
assemble-requires-clause-passed c =
    let given = given_of c.in_ok-whole.whole in
    let known = c.in_ok-known.ensures in
    let passed : ArePassed given (map source_of c.deref.result.now) c.in_ok-known.known = record { faultless = known.faultless; known = known.known } in
    (given, subst (λ xs. ArePassed given (map source_of xs) c.in_ok-known.known) (c.deref.ensures.value ∙ sym c.deref-3.ensures.value) passed)

pub returns-clause-program : goal.returns-clause-program
returns-clause-program c =
    let given = given_of c.in_ok-whole.whole in
    let last = c.in_ok-known.known in
    let settings = map setting_of c.args.settings.now in
    let texts = names_view c.deref-2.result.now in
    let ps = map source_of c.deref-3.result.now in
    let entries = map entry_of c.args.lines.now in
    let known = c.in_ok-known.ensures in
    let contents = c.in_ok-contents.ensures in
    let passed : ArePassed given ps last =
    subst (λ xs. ArePassed given (map source_of xs) last) (c.deref.ensures.value ∙ sym c.deref-3.ensures.value) (record { faultless = known.faultless; known = known.known }) in
    let listed : ps ≡ statements_in entries = ap (map source_of) c.deref-3.ensures.value ∙ contents.sources in
    let told : texts ≡ directives_of entries = ap names_view c.deref-2.ensures.value ∙ contents.directives in
    let integers = contents.integers ∙ ap integers_among (contents.sources ∙ sym listed) in
    let held : given ≡ given_with ps settings = c.in_ok-whole.ensures.given ∙ ap (λ ns. record { settings = settings; integers = ns }) integers in
    let good : bad_setting_from 1 (constant_names last) settings ≡ None = grind (arith, common_steps) in
    program_listed entries settings texts given ps last (tree_of_draft c.in_ok-program.program) listed told held passed good (c.in_ok-program.ensures given passed)
