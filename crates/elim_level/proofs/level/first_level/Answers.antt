use Rattle.std.proofs.Common.{sym, subst}
use Rattle.std.specs.List.{All, Contains}
use Rattle.elim_level.specs.Forming.{IsFormed}
use Rattle.elim_level.specs.Logs.{IsFounded}
use Rattle.elim_rows.specs.Table.{IsTable}
use Rattle.elim_level.proofs.Given.{first_formed, first_lowest}
use Rattle.elim_level.proofs.level.first_level.Goals as goal

pub numbered-requires-clause-founded : goal.numbered-requires-clause-founded
numbered-requires-clause-founded c = subst (λ log. All (IsFounded c.args.system.now log) c.in_ok-rows.field-0.rows.items) (sym c.requires.fresh) c.in_ok-rows.ensures.given.founded

pub numbered-requires-clause-lowest : goal.numbered-requires-clause-lowest
numbered-requires-clause-lowest c = first_lowest c.args.system.now c.in_ok-rows.field-0.rows.items c.in_ok-rows.ensures.given

pub returns-clause-formed : goal.returns-clause-formed
returns-clause-formed c =
    let system = c.args.system.now in
    let formed = first_formed system c.in_ok-rows.field-0.rows.items c.in_ok-rows.ensures.given c.in_ok-rows.ensures.table.distinct in
    subst (IsFormed (λ r. Contains system.rows r)) (sym c.in_ok-rows-2.ensures.rows) formed

pub returns-clause-table : goal.returns-clause-table
returns-clause-table c =
    let chains = c.in_ok-rows.field-0.chains in
    subst (λ rs. IsTable rs chains.links.items chains.latest.items) (sym c.in_ok-rows-2.ensures.rows) c.in_ok-rows.ensures.table
