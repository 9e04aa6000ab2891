-- The line that is printed where bytes are no plan's text, without its line end.
use Rattle.std.specs.Prelude.{ℕ, List, ◌++◌, codes}
use Rattle.std.specs.Fmt.{decimal}
use Rattle.plan_text.specs.declared.syntax.PlanSyntax.{PlanSyntax}
use Rattle.plan_text.specs.declared.syntax.PlanSyntax.TheVariants.{Line, NoMemory}

abbrev pub text_of_syntax : PlanSyntax → List ℕ
text_of_syntax (Line number) = codes "PLAN SYNTAX " ++ decimal number
text_of_syntax NoMemory = codes "out of memory"
