-- The line that tells an error, without its line end.
use Rattle.std.specs.Prelude.{ℕ, List, codes}
use Rattle.f77_lines.specs.RefusalText as lines
use Rattle.f77_program.specs.Refusals as statements
use Rattle.nest_tree.specs.LimitText.{text_of_limit}
use Rattle.plan_checker.specs.RefusalText as plans
use Rattle.plan_input.specs.declared.error.InputError.{InputError}
use Rattle.plan_input.specs.declared.error.InputError.TheVariants.{BadSweep, BadWords, Limit, Line, Misfit, NoMemory, Range, ReadFault, Statement, Syntax, TooLong, WriteFault}
use Rattle.plan_text.specs.SyntaxText.{text_of_syntax}
use Rattle.range_check.specs.OutsideText.{text_of_outside}

abbrev pub text_of_error : InputError → List ℕ
text_of_error BadWords = codes "WORDS 0"
text_of_error BadSweep = codes "WORDS SWEEP"
text_of_error TooLong = codes "TOO LONG"
text_of_error (Line refusal) = lines.text_of_refusal refusal
text_of_error (Statement refusal) = statements.text_of_refusal refusal
text_of_error (Limit limit) = text_of_limit limit
text_of_error (Range outside) = text_of_outside outside
text_of_error (Syntax refusal) = text_of_syntax refusal
text_of_error (Misfit refusal) = plans.text_of_refusal refusal
text_of_error ReadFault = codes "a read failed"
text_of_error WriteFault = codes "a write failed"
text_of_error NoMemory = codes "memory ran out"
