use Rattle.std.proofs.Common.{◌==◌, ap, ◌∙◌}
use Rattle.std.specs.List.{list_any}
use Rattle.nest_rows.specs.declared.terms.Around.{Around}
use Rattle.owner_partition.specs.StaticPhases.{loops_of}
use Rattle.owner_partition.proofs.StaticPhases.{is_among}
use Rattle.owner_partition.proofs.static_phase.StaticPhase.is_round.Goals as goal

pub returns : goal.returns
returns c =
    let number = c.args.number in
    c.has_loop.ensures ∙ ap (list_any (λ (a : Around). a.nest.now.number == number)) c.as_slice.ensures ∙ is_among (loops_of c.args.self.now.outer) number
