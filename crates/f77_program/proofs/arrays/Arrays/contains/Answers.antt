use Rattle.std.proofs.Common.{ap, sym, ◌∙◌}
use Rattle.f77_scene.specs.Scene.{is_among}
use Rattle.f77_program.specs.Known.{names_of_arrays}
use Rattle.f77_program.proofs.Looked.{names-arrays}
use Rattle.f77_program.proofs.arrays.Arrays.contains.Goals as goal

pub returns : goal.returns
returns c =
    let name = c.args.name.now in
    c.contains.ensures ∙ ap (λ ns. is_among ns name) (sym (names-arrays c.self.inside.names c.self.inside.bounds.items c.self.invariant)) ∙ ap (λ cs. is_among (names_of_arrays cs) name) c.self.view_is
