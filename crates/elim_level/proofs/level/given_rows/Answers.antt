use Rattle.std.proofs.Common.{◌≡◌, ◌<◌, length, get_or, [], sym, ap, ◌∙◌, subst, arith}
use Rattle.std.specs.List.{Contains}
use Rattle.std.proofs.lemmas.List.Elements.{Contains-get_or}
use Rattle.elim_level.proofs.Given.{given_suited, given_number, AreGiven-more}
use Rattle.elim_level.proofs.level.given_rows.Goals as goal

pub loop-index-preserved : goal.loop-index-preserved
loop-index-preserved c =
    let system = c.args.system.now in
    let i = c.loop-index.index in
    let raw = c.row-item.result in
    let same = c.rows-row-items.ensures.rows in
    let within : i < length system.rows = omega (arith, c.loop-index-test.true, ap length same) in
    let at : raw ≡ get_or system.rows i raw = c.row-item.is ∙ ap (λ rs. get_or rs i raw) same in
    let there : Contains system.rows raw = subst (Contains system.rows) (sym at) (Contains-get_or system.rows i raw within) in
    let suited = given_suited system.vars system.rows raw c.rows-row-items.ensures.full c.requires there in
    let put = c.in_ok-put_given.ensures.put in
    record {
      table = c.in_ok-put_given.ensures.table;
      given = AreGiven-more system i raw c.loop-index.table.rows.items c.put_given.new.table.rows.items put.0 within at c.loop-index.invariant.given put.2 (put.3 system [] suited (given_number system.rows i raw within at)) put.1;
    }
