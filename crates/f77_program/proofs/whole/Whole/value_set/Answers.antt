use Rattle.std.proofs.Common.{◌≡◌, w64, FitsSigned, true, false, if◌then◌else◌, sym, ap, ◌∙◌, rules}
use Rattle.std.proofs.lemmas.Int.{to_z-of_z}
use Rattle.f77_scene.specs.Scene.{is_among, value_named}
use Rattle.f77_program.specs.Known.{names_of_constants}
use Rattle.f77_program.proofs.Settings.{value_set-found}
use Rattle.f77_program.proofs.whole.Whole.value_set.Goals as goal

pub returns-then-contains : goal.returns-then-contains
returns-then-contains c =
    let settings = c.args.self.now.settings in
    let name = c.args.name.now in
    let f : FitsSigned w64 c.value.result = search rules in
    let there : is_among (names_of_constants settings) name ≡ true = sym c.contains.ensures ∙ c.if-contains.true in
    to_z-of_z w64 c.value.result f ∙ c.value.ensures ∙ sym (ap (λ b. if b then value_named settings name else c.args.written) there) ∙ sym (value_set-found settings name c.args.written)

pub returns-else-contains : goal.returns-else-contains
returns-else-contains c =
    let settings = c.args.self.now.settings in
    let name = c.args.name.now in
    let missing : is_among (names_of_constants settings) name ≡ false = sym c.contains.ensures ∙ c.if-contains.false in
    to_z-of_z w64 c.args.written c.ranges.written ∙ sym (ap (λ b. if b then value_named settings name else c.args.written) missing) ∙ sym (value_set-found settings name c.args.written)
