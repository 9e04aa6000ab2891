-- A call by its list of arguments.
use Rattle.std.proofs.Common.{◌≡◌, ℕ, map, Vec, Global, refl, sym, ap, ◌∙◌}
use Rattle.f77_forms.specs.Form.{call, one_more, arguments_in}
use Rattle.f77_forms.specs.View.{expression_of, arguments_of}
use Rattle.f77_forms.specs.declared.form.Expression.{Expression, Call, Call', Row_of-Expression, end_of-Expression, more_of-Expression, items-the_row-Expression, items_hidden-the_row-Expression-0}
use mathlib.Core.Former.{Count}

arguments_in-row : (n : _) (row : Row_of-Expression n) → arguments_in (map expression_of (items-the_row-Expression n row)) ≡ arguments_of row
arguments_in-row n end_of-Expression = refl
arguments_in-row n (more_of-Expression e rest) = ap (one_more (expression_of e)) (arguments_in-row _ rest)

abbrev row_of : Expression → (n : Count) × Row_of-Expression n
row_of (Call' _ _ row) = (_, row)
row_of _ = (_, end_of-Expression)

-- a call of the arguments in a list
pub expression_of-Call : (name : Vec ℕ Global) (arguments : Vec Expression Global) → expression_of (Call name arguments) ≡ call name.items (arguments_in (map expression_of arguments.items))
expression_of-Call name arguments =
    let row = row_of (Call name arguments) in
    ap (call name.items) (sym (arguments_in-row row.0 row.1) ∙ ap (λ es. arguments_in (map expression_of es)) (items_hidden-the_row-Expression-0 arguments))
