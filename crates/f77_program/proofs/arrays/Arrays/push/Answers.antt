use Rattle.std.proofs.Common.{◌++◌, ◌∷◌, [], ap, ◌∙◌}
use Rattle.f77_program.proofs.Looked.{arrays-push}
use Rattle.f77_program.proofs.arrays.Arrays.push.Goals as goal

pub returns-in-Ok-clause-ok : goal.returns-in-Ok-clause-ok
returns-in-Ok-clause-ok c =
    rw (c.in_ok-push.ensures.items, c.in-Ok.ensures.ok)
    (arrays-push c.self.inside.names c.self.inside.bounds.items c.args.name.now c.args.bounds c.self.invariant ∙ ap (λ arrays. arrays ++ record { name = c.args.name.now; bounds = c.args.bounds.items } ∷ []) c.self.view_is)
