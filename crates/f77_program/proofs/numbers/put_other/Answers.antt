use Rattle.std.proofs.Common.{◌≡◌, Some, None, if◌then◌else◌, sym, ap, ◌∙◌}
use Rattle.std.specs.Str.{bytes_eq}
use Rattle.f77_program.specs.Numbered.{number_apart}
use Rattle.f77_program.proofs.Mapped.{gained, kept, looked_up, lookup-inserted, missing}
use Rattle.f77_program.proofs.numbers.put_other.Goals as goal

pub returns-then-contains_key-clause-there : goal.returns-then-contains_key-clause-there
returns-then-contains_key-clause-there c = λ other.
    kept (number_apart c.args.numbers.now) c.args.name.now c.args.number other (sym c.contains_key.ensures ∙ c.if-contains_key.true)

pub returns-clause-there : goal.returns-clause-there
returns-clause-there c = λ other.
    let old = number_apart c.args.numbers.now in
    let named = c.in_ok-name.ensures.items in
    let none : old c.args.name.now ≡ None = missing (old c.args.name.now) (sym c.contains_key.ensures ∙ c.if-contains_key.false) in
    ap (looked_up other) c.in_ok-insert.ensures.entries ∙ lookup-inserted c.args.numbers.now.entries c.in_ok-name.name c.args.number other (ap old named ∙ none)
    ∙ ap (λ name. if bytes_eq other name then Some c.args.number else old other) named ∙ gained old c.args.name.now c.args.number other none
