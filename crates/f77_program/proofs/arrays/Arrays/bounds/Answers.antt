use Rattle.std.proofs.Common.{◌≡◌, Some, None, ap, sym, ◌∙◌, arith}
use Rattle.f77_scene.specs.Scene.{bounds_named}
use Rattle.f77_program.specs.Numbered.{numbered}
use Rattle.f77_program.proofs.Looked.{numbered-within, bounds-arrays, bounds-missing}
use Rattle.f77_program.proofs.arrays.Arrays.bounds.Goals as goal

pub overflow_sub-number : goal.overflow_sub-number
overflow_sub-number c =
    let found : numbered c.self.inside.names c.args.name.now ≡ Some c.in-Some.number = sym c.in-Some.ensures.number in
    let within = numbered-within c.self.inside.names c.args.name.now c.in-Some.number found in
    omega (arith, within.0)

pub index-requires : goal.index-requires
index-requires c =
    let found : numbered c.self.inside.names c.args.name.now ≡ Some c.in-Some.number = sym c.in-Some.ensures.number in
    let within = numbered-within c.self.inside.names c.args.name.now c.in-Some.number found in
    omega (arith, within.0, within.1, c.self.invariant)

pub returns-in-Some : goal.returns-in-Some
returns-in-Some c =
    let names = c.self.inside.names in
    let name = c.args.name.now in
    let found : numbered names name ≡ Some c.in-Some.number = sym c.in-Some.ensures.number in
    c.as_slice.ensures.value ∙ sym (bounds-arrays names c.self.inside.bounds.items name c.in-Some.number c.index.result.now c.self.invariant found c.index.ensures) ∙ ap (λ arrays. bounds_named arrays name) c.self.view_is

pub returns-in-None : goal.returns-in-None
returns-in-None c =
    let name = c.args.name.now in
    let missing : numbered c.self.inside.names name ≡ None = sym c.in-None.ensures.number in
    sym (bounds-missing c.self.inside.names c.self.inside.bounds.items name missing) ∙ ap (λ arrays. bounds_named arrays name) c.self.view_is
