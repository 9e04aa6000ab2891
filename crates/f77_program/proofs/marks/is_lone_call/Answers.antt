use Rattle.std.proofs.Common.{◌≡◌, ◌==◌, ◌&&◌, length, map, true, false, sym, ap, ◌∙◌, arith}
use Rattle.std.proofs.lemmas.Bool.Decides.{nat_tests}
use Rattle.std.proofs.lemmas.List.{length-map}
use Rattle.f77_forms.proofs.Called.{expression_of-Call}
use Rattle.f77_forms.specs.View.{expression_of}
use Rattle.f77_scene.specs.Scene.{is_function}
use Rattle.f77_scene.specs.Tests.{is_lone_call}
use Rattle.f77_program.proofs.Parted.{lone}
use Rattle.f77_program.proofs.marks.is_lone_call.Goals as goal

pub returns-then-len-eq1 : goal.returns-then-len-eq1
returns-then-len-eq1 c =
    let s = c.args.known.now in
    let es = map expression_of c.in-Call.arguments.items in
    let one : (length es == 1) ≡ true = grind (arith, nat_tests, length-map c.in-Call.arguments.items expression_of, c.len.ensures, c.if-len-eq1.true) in
    c.is_function.ensures ∙ ap (is_function s) c.deref.ensures.value ∙ sym (ap (λ b. b && is_function s c.in-Call.name.items) one) ∙ sym (lone s c.in-Call.name.items es)
    ∙ ap (is_lone_call s) (sym (expression_of-Call c.in-Call.name c.in-Call.arguments)) ∙ ap (λ p. is_lone_call s (expression_of p)) (sym c.in-Call.is)

pub returns-else-len-eq1 : goal.returns-else-len-eq1
returns-else-len-eq1 c =
    let s = c.args.known.now in
    let es = map expression_of c.in-Call.arguments.items in
    let other : (length es == 1) ≡ false = grind (arith, nat_tests, length-map c.in-Call.arguments.items expression_of, c.len.ensures, c.if-len-eq1.false) in
    let differs : (c.len.result == 1) ≡ false = grind (arith, nat_tests, c.if-len-eq1.false) in
    differs ∙ sym (ap (λ b. b && is_function s c.in-Call.name.items) other) ∙ sym (lone s c.in-Call.name.items es)
    ∙ ap (is_lone_call s) (sym (expression_of-Call c.in-Call.name c.in-Call.arguments)) ∙ ap (λ p. is_lone_call s (expression_of p)) (sym c.in-Call.is)
