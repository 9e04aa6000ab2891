use Rattle.std.proofs.Common.{◌∙◌, Some, None, if◌then◌else◌, sym, ap}
use Rattle.std.proofs.lemmas.Result.{on_ok_weaker}
use Rattle.std.specs.BTreeMap.{get}
use Rattle.std.specs.Option.{option_or}
use Rattle.std.specs.Ordering.{is_eq, nat_cmp}
use Rattle.f77_program.proofs.Keyed.{short_more}
use Rattle.f77_program.proofs.numbers.Numbers.put.Goals as goal

pub returns-then-is_short-clause-there : goal.returns-then-is_short-clause-there
returns-then-is_short-clause-there c =
    let old = c.args.self.now in
    let number = c.args.number in
    on_ok_weaker c.put_short.result (λ made. short_more old.short c.put_short.new.numbers old.others c.args.name.now number (sym c.if-is_short.ensures)
    (λ key. made key ∙ ap (λ k. option_or (get nat_cmp old.short key) (if is_eq (nat_cmp k key) then Some number else None)) c.key_of.ensures))
    c.put_short.ensures.there
