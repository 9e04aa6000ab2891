use Rattle.std.proofs.Common.{map, subst, sym}
use Rattle.std.proofs.lemmas.Result.{err_from_is_err_and}
use Rattle.f77_lines.specs.Listing.{entry_of}
use Rattle.f77_source.specs.Answers.{IsProgram}
use Rattle.f77_source.specs.Sources.{setting_of}
use Rattle.nest_tree.specs.View.{tree_of_draft}
use Rattle.plan_input.proofs.Firsts.{of_limit, of_statement}
use Rattle.plan_input.proofs.reading.program_of.Goals as goal

pub returns-in_err-draft-clause-refused : goal.returns-in_err-draft-clause-refused
returns-in_err-draft-clause-refused c =
    let told = err_from_is_err_and c.from_residual.result c.from_residual.ensures.1 in
    rw told.1 (of_statement (map entry_of c.args.lines.now) (map setting_of c.args.settings.now) c.in_err-draft.field-0.0 told.0 c.in_err-draft.ensures.refused told.2)

pub limited-requires : goal.limited-requires
limited-requires c = c.in_ok-draft.ensures.formed c.requires.0 c.requires.1 c.requires.2

pub returns-in-Ok-clause-program : goal.returns-in-Ok-clause-program
returns-in-Ok-clause-program c = subst (IsProgram (map entry_of c.args.lines.now) (map setting_of c.args.settings.now)) (sym c.in-Ok.ensures.program) c.in_ok-draft.ensures.program

pub returns-in-Err-clause-refused : goal.returns-in-Err-clause-refused
returns-in-Err-clause-refused c =
    λ memoryful. of_limit (map entry_of c.args.lines.now) (map setting_of c.args.settings.now) (tree_of_draft c.in_ok-draft.draft) c.in-Err.limit c.in_ok-draft.ensures.program c.in-Err.ensures.limit
