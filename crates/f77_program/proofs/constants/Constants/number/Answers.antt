use Rattle.std.proofs.Common.{ap, sym, ◌∙◌}
use Rattle.f77_program.specs.Known.{names_of_constants}
use Rattle.f77_program.specs.Numbered.{numbered}
use Rattle.f77_program.proofs.Looked.{names-constants}
use Rattle.f77_program.proofs.constants.Constants.number.Goals as goal

pub returns-clause-number : goal.returns-clause-number
returns-clause-number c =
    let name = c.args.name.now in
    c.number.ensures.number ∙ ap (λ ns. numbered ns name) (sym (names-constants c.self.inside.names c.self.inside.values.items c.self.invariant)) ∙ ap (λ cs. numbered (names_of_constants cs) name) c.self.view_is
