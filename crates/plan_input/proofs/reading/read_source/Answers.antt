use Rattle.std.proofs.Common.{List, [], map, subst, sym}
use Rattle.std.proofs.lemmas.Result.{err_from_is_err_and}
use Rattle.f77_lines.specs.Listing.{Lists, entry_of}
use Rattle.f77_lines.specs.declared.line.Line.{Line}
use Rattle.nest_tree.specs.View.{tree_of}
use Rattle.plan_input.proofs.Firsts.{reads_program, source_of_lines, source_of_listed}
use Rattle.plan_input.proofs.reading.read_source.Goals as goal

pub returns-in_err-lines-clause-refused : goal.returns-in_err-lines-clause-refused
returns-in_err-lines-clause-refused c =
    let told = err_from_is_err_and c.from_residual.result c.from_residual.ensures.1 in
    rw (told.1, told.2) (source_of_lines c.args.bytes.now [] c.in_err-lines.field-0.0 c.in_err-lines.ensures.refused)

pub returns-in_err-program-clause-refused : goal.returns-in_err-program-clause-refused
returns-in_err-program-clause-refused c =
    let bytes = c.args.bytes.now in
    let rest = c.in_ok-lines.rest in
    let lists = subst (λ (lines : List Line). Lists bytes (map entry_of lines) rest) (sym c.deref.ensures.value) c.in_ok-lines.ensures.lists in
    let told = err_from_is_err_and c.from_residual-in_err-program.result c.from_residual-in_err-program.ensures.1 in
    rw (told.1, told.2) (source_of_listed bytes [] (map entry_of c.deref.result.now) rest c.in_err-program.field-0.0 c.in_ok-lines.ensures.none lists c.in_err-program.ensures.refused)

pub returns-clause-program : goal.returns-clause-program
returns-clause-program c =
    let bytes = c.args.bytes.now in
    let rest = c.in_ok-lines.rest in
    let lists = subst (λ (lines : List Line). Lists bytes (map entry_of lines) rest) (sym c.deref.ensures.value) c.in_ok-lines.ensures.lists in
    reads_program bytes (map entry_of c.deref.result.now) rest [] (tree_of c.in_ok-program.program) lists c.in_ok-program.ensures.program

pub returns-clause-rest : goal.returns-clause-rest
returns-clause-rest c = c.in_ok-lines.ensures.lists.behind
