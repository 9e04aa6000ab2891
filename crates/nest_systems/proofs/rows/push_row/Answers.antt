use Rattle.std.proofs.Common.{length, ap, ◌∙◌}
use Rattle.std.proofs.lemmas.List.FromFn.{length-map-range_with_len}
use Rattle.farkas_cert.specs.declared.system.Row.{Row}
use Rattle.nest_rows.specs.Constraints.{coefficient}
use Rattle.nest_systems.proofs.rows.push_row.Goals as goal

pub push-requires-clause-full : goal.push-requires-clause-full
push-requires-clause-full c =
    ap (λ (r : Row). length r.coefs) c.in_ok-row.ensures.row ∙ length-map-range_with_len (coefficient c.args.constraint.now.terms) 1 c.vars-vars.result ∙ c.vars-vars.ensures ∙ ap (λ s. s.vars) c.as_system.ensures.system
