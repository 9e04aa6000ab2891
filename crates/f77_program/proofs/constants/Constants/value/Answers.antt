use Rattle.std.proofs.Common.{◌≡◌, ◌-◌, Some, None, FitsSigned, w64, pos, ap, sym, ◌∙◌, arith, rules}
use Rattle.std.proofs.lemmas.Int.{to_z-of_z}
use Rattle.std.proofs.lemmas.List.{get_or_default}
use Rattle.f77_scene.specs.Scene.{value_named}
use Rattle.f77_program.specs.Numbered.{numbered}
use Rattle.f77_program.proofs.Looked.{numbered-within, value-constants, value-missing}
use Rattle.f77_program.proofs.constants.Constants.value.Goals as goal

pub overflow_sub-number : goal.overflow_sub-number
overflow_sub-number c =
    let found : numbered c.self.inside.names c.args.name.now ≡ Some c.in-Some.number = sym c.in-Some.ensures.number in
    let within = numbered-within c.self.inside.names c.args.name.now c.in-Some.number found in
    omega (arith, within.0)

pub index-requires : goal.index-requires
index-requires c =
    let found : numbered c.self.inside.names c.args.name.now ≡ Some c.in-Some.number = sym c.in-Some.ensures.number in
    let within = numbered-within c.self.inside.names c.args.name.now c.in-Some.number found in
    omega (arith, within.0, within.1, c.self.invariant)

pub returns-in-Some : goal.returns-in-Some
returns-in-Some c =
    let names = c.self.inside.names in
    let values = c.self.inside.values.items in
    let name = c.args.name.now in
    let found : numbered names name ≡ Some c.in-Some.number = sym c.in-Some.ensures.number in
    let within = numbered-within names name c.in-Some.number found in
    let f : FitsSigned w64 c.index.result.now = search rules in
    to_z-of_z w64 c.index.result.now f ∙ c.index.ensures ∙ get_or_default values (c.in-Some.number - 1) c.index.result.now (pos 0) (omega (arith, within.0, within.1, c.self.invariant))
    ∙ sym (value-constants names values name c.in-Some.number c.self.invariant found) ∙ ap (λ cs. value_named cs name) c.self.view_is

pub returns-in-None : goal.returns-in-None
returns-in-None c =
    let name = c.args.name.now in
    let missing : numbered c.self.inside.names name ≡ None = sym c.in-None.ensures.number in
    sym (value-missing c.self.inside.names c.self.inside.values.items name missing) ∙ ap (λ cs. value_named cs name) c.self.view_is
