use Rattle.std.proofs.Common.{List, map, subst, sym}
use Rattle.std.proofs.lemmas.Result.{err_from_is_err_and}
use Rattle.f77_lines.specs.Listing.{Lists, entry_of}
use Rattle.f77_lines.specs.declared.line.Line.{Line}
use Rattle.f77_source.specs.Sources.{setting_of}
use Rattle.nest_tree.specs.View.{tree_of}
use Rattle.plan_input.proofs.Firsts.{clear_lines, first_of_lines, first_of_listed, none_first, of_range, reads_program}
use Rattle.plan_input.proofs.reading.read_inside.Goals as goal

pub returns-in_err-lines-clause-refused : goal.returns-in_err-lines-clause-refused
returns-in_err-lines-clause-refused c =
    let told = err_from_is_err_and c.from_residual.result c.from_residual.ensures.1 in
    rw (told.1, told.2) (first_of_lines c.args.alone c.args.bytes.now (map setting_of c.args.settings.now) c.in_err-lines.field-0.0 c.in_err-lines.ensures.refused)

pub returns-in_err-program-clause-refused : goal.returns-in_err-program-clause-refused
returns-in_err-program-clause-refused c =
    let bytes = c.args.bytes.now in
    let rest = c.in_ok-lines.rest in
    let lists = subst (λ (lines : List Line). Lists bytes (map entry_of lines) rest) (sym c.deref.ensures.value) c.in_ok-lines.ensures.lists in
    let told = err_from_is_err_and c.from_residual-in_err-program.result c.from_residual-in_err-program.ensures.1 in
    rw (told.1, told.2)
    (first_of_listed c.args.alone bytes (map setting_of c.args.settings.now) (map entry_of c.deref.result.now) rest c.in_err-program.field-0.0 c.in_ok-lines.ensures.none lists c.in_err-program.ensures.refused)

pub returns-in-Ok-clause-program : goal.returns-in-Ok-clause-program
returns-in-Ok-clause-program c =
    let bytes = c.args.bytes.now in
    let rest = c.in_ok-lines.rest in
    let lists = subst (λ (lines : List Line). Lists bytes (map entry_of lines) rest) (sym c.deref.ensures.value) c.in_ok-lines.ensures.lists in
    record {
      reads = reads_program bytes (map entry_of c.deref.result.now) rest (map setting_of c.args.settings.now) (tree_of c.in_ok-program.program) lists c.in_ok-program.ensures.program;
      limits = c.in_ok-program.program.limits;
    }

pub returns-in-Ok-clause-clear : goal.returns-in-Ok-clause-clear
returns-in-Ok-clause-clear c = clear_lines c.args.alone c.args.bytes.now c.in_ok-lines.ensures.none

pub returns-in-Ok-clause-none : goal.returns-in-Ok-clause-none
returns-in-Ok-clause-none c =
    let bytes = c.args.bytes.now in
    let rest = c.in_ok-lines.rest in
    let lists = subst (λ (lines : List Line). Lists bytes (map entry_of lines) rest) (sym c.deref.ensures.value) c.in_ok-lines.ensures.lists in
    none_first c.args.alone bytes (map setting_of c.args.settings.now) (map entry_of c.deref.result.now) rest (tree_of c.in_ok-program.program) c.in_ok-lines.ensures.none lists c.in_ok-program.ensures.program c.in_ok-program.program.limits c.in-Ok.ensures.first

pub returns-in-Ok-clause-rest : goal.returns-in-Ok-clause-rest
returns-in-Ok-clause-rest c = c.in_ok-lines.ensures.lists.behind

pub returns-clause-refused : goal.returns-clause-refused
returns-clause-refused c =
    let bytes = c.args.bytes.now in
    let rest = c.in_ok-lines.rest in
    let lists = subst (λ (lines : List Line). Lists bytes (map entry_of lines) rest) (sym c.deref.ensures.value) c.in_ok-lines.ensures.lists in
    λ memoryful.
    of_range c.args.alone bytes (map setting_of c.args.settings.now) (map entry_of c.deref.result.now) rest (tree_of c.in_ok-program.program) c.in-Err.outside c.in_ok-lines.ensures.none lists c.in_ok-program.ensures.program c.in_ok-program.program.limits c.in-Err.ensures.first
