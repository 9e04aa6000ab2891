use Rattle.std.proofs.Common.{◌≡◌, nat_lt, not, length, map, sym, ap, ◌∙◌, arith}
use Rattle.std.proofs.lemmas.Bool.Decides.{nat_tests}
use Rattle.std.proofs.lemmas.List.{length-map}
use Rattle.f77_forms.specs.View.{expression_of}
use Rattle.f77_program.proofs.Parted.{listed_arguments}
use Rattle.f77_program.proofs.statements.has_arguments.Goals as goal

pub returns : goal.returns
returns c =
    let es = map expression_of c.args.target.now.arguments.items in
    let same : not c.is_empty.result ≡ nat_lt 0 (length es) = grind (arith, nat_tests, c.is_empty.ensures, length-map c.args.target.now.arguments.items expression_of) in
    same ∙ ap (λ fs. nat_lt 0 (length fs)) (sym (listed_arguments es))
