use Rattle.std.proofs.Common.{◌≡◌, length, map, sym, ap, ◌∙◌, arith}
use Rattle.std.proofs.lemmas.List.{length-map}
use Rattle.f77_forms.proofs.Called.{expression_of-Call}
use Rattle.f77_forms.specs.View.{expression_of}
use Rattle.f77_scene.specs.Tests.{has_wrong_subscripts}
use Rattle.f77_program.specs.Marks.{has_other_rank}
use Rattle.f77_program.proofs.Parted.{subscripted}
use Rattle.f77_program.proofs.marks.is_wrongly_subscripted.Goals as goal

pub returns-in-Call : goal.returns-in-Call
returns-in-Call c =
    let s = c.args.known.now in
    let name = c.in-Call.name.items in
    let es = map expression_of c.in-Call.arguments.items in
    let count : c.len.result ≡ length es = omega (arith, length-map c.in-Call.arguments.items expression_of, c.len.ensures) in
    c.is_bad_rank.ensures ∙ ap (λ n. has_other_rank s n c.len.result) c.deref-in-Call.ensures.value ∙ ap (has_other_rank s name) count ∙ sym (subscripted s name es)
    ∙ ap (has_wrong_subscripts s) (sym (expression_of-Call c.in-Call.name c.in-Call.arguments)) ∙ ap (λ p. has_wrong_subscripts s (expression_of p)) (sym c.in-Call.is)
