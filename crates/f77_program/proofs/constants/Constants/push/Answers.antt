use Rattle.std.proofs.Common.{◌≡◌, ◌++◌, ◌∷◌, [], w64, ap, ◌∙◌}
use Rattle.std.proofs.lemmas.Int.{to_z-of_z}
use Rattle.f77_program.specs.Known.{constants_from}
use Rattle.f77_program.proofs.Looked.{constants-push}
use Rattle.f77_program.proofs.constants.Constants.push.Goals as goal

pub returns-in-Ok-clause-ok : goal.returns-in-Ok-clause-ok
returns-in-Ok-clause-ok c =
    let names = c.self.inside.names in
    let values = c.self.inside.values.items in
    let name = c.args.name.now in
    let z = c.args.value in
    let pushed : c.push.new.self.items ≡ values ++ z ∷ [] = c.in_ok-push.ensures.items ∙ ap (λ v. values ++ v ∷ []) (to_z-of_z w64 z c.ranges.value) in
    ap (λ vs. constants_from c.push-2.new.self vs) pushed ∙ ap (λ ns. constants_from ns (values ++ z ∷ [])) c.in-Ok.ensures.ok ∙ constants-push names values name z c.self.invariant
    ∙ ap (λ cs. cs ++ record { name = name; value = z } ∷ []) c.self.view_is
