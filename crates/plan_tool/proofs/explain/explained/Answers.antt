use Rattle.std.proofs.Common.{map}
use Rattle.std.proofs.lemmas.Result.{err_from_is_err_and}
use Rattle.f77_source.specs.Sources.{setting_of}
use Rattle.nest_tree.specs.View.{tree_of}
use Rattle.plan_tool.proofs.Sources.{faultless, source_of}
use Rattle.plan_tool.proofs.Untold.{untold_lines}
use Rattle.plan_tool.proofs.explain.explained.Goals as goal

pub write_account-requires-clause-faultless : goal.write_account-requires-clause-faultless
write_account-requires-clause-faultless g c =
    let settings = map setting_of c.args.settings.now in
    let tree = tree_of c.in_ok-found.found.program in
    faultless c.args.bytes.now settings tree (source_of c.args.subject c.args.bytes.now settings tree c.in_ok-found.found.account.plan c.in_ok-found.ensures.account.plan).reads

pub returns-in_err-write_account : goal.returns-in_err-write_account
returns-in_err-write_account g c =
    let told = err_from_is_err_and c.from_residual-in_err-write_account.result c.from_residual-in_err-write_account.ensures.1 in
    rw told.1 (untold_lines c.args.subject c.args.bytes.now (map setting_of c.args.settings.now) c.in_err-write_account.field-0.0 told.0 c.in_err-write_account.ensures told.2)
