use Rattle.std.proofs.Common.{ap, sym, ◌∙◌, map}
use Rattle.std.proofs.lemmas.List.{map_push}
use Rattle.f77_forms.specs.Form.{call, arguments_in}
use Rattle.f77_forms.specs.View.{expression_of}
use Rattle.f77_forms.specs.Reading.{whole, enclosed}
use Rattle.f77_forms.specs.State.{opener_of}
use Rattle.f77_forms.proofs.Called.{expression_of-Call}
use Rattle.f77_forms.proofs.reader.enclosed.Goals as goal

pub returns-in-Arguments-clause-enclosed : goal.returns-in-Arguments-clause-enclosed
unfolding enclosed
returns-in-Arguments-clause-enclosed c =
    ap whole (expression_of-Call c.in-Arguments.name c.push.new.self
    ∙ ap (λ es. call c.in-Arguments.name.items (arguments_in (map expression_of es))) c.in_ok-push-in-Arguments.ensures.items
    ∙ ap (λ es. call c.in-Arguments.name.items (arguments_in es)) (map_push expression_of c.in-Arguments.front.items c.args.e))
    ∙ sym (ap (λ o. enclosed (opener_of o) (expression_of c.args.e)) c.in-Arguments.is)
