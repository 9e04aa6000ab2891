-- From the declared types to forms.
use Rattle.std.specs.Prelude.{map, Option, Some, None}
use Rattle.f77_forms.specs.Form.{ExpressionForm, number, name, call, parenthesized, signed, binary, ArgumentForms, no_more, one_more, arguments_in, BoundForm, DeclaratorForm, DefinitionForm, TargetForm, AssignmentForm, ComparisonForm, DoForm, PrintedForm, value, constant, StatementForm, program, integer, dimension, parameter, do_loop, assign, logical_if, print, continue, stop, end}
use Rattle.f77_forms.specs.declared.form.Expression.{Expression, Number, Name, Call', Parenthesized', Signed', Binary', Row_of-Expression, end_of-Expression, more_of-Expression}
use Rattle.f77_forms.specs.declared.form.Bound.{Bound}
use Rattle.f77_forms.specs.declared.form.Declarator.{Declarator}
use Rattle.f77_forms.specs.declared.form.Definition.{Definition}
use Rattle.f77_forms.specs.declared.form.Target.{Target}
use Rattle.f77_forms.specs.declared.form.Assignment.{Assignment}
use Rattle.f77_forms.specs.declared.form.Comparison.{Comparison}
use Rattle.f77_forms.specs.declared.form.DoStatement.{DoStatement}
use Rattle.f77_forms.specs.declared.form.Printed.{Printed}
use Rattle.f77_forms.specs.declared.form.Printed.TheVariants.{Value, Text}
use Rattle.f77_forms.specs.declared.form.Statement.{Statement}
use Rattle.f77_forms.specs.declared.form.Statement.TheVariants.{Program, Integer, Dimension, Parameter, Do, Assign, If, Print, Continue, Stop, End}

abbrev mutual
  pub expression_of : Expression → ExpressionForm
  expression_of (Number n) = number n
  expression_of (Name n) = name n.items
  expression_of (Call' n shape all) = call n.items (arguments_of all)
  expression_of (Parenthesized' p e) = parenthesized (expression_of e)
  expression_of (Signed' sign p e) = signed sign (expression_of e)
  expression_of (Binary' op p a q b) = binary op (expression_of a) (expression_of b)

  pub arguments_of : {m : _} → Row_of-Expression m → ArgumentForms
  arguments_of end_of-Expression = no_more
  arguments_of (more_of-Expression e rest) = one_more (expression_of e) (arguments_of rest)

abbrev pub optional_of : Option Expression → Option ExpressionForm
optional_of None = None
optional_of (Some e) = Some (expression_of e)

abbrev pub bound_of : Bound → BoundForm
bound_of b = record { lower = optional_of b.lower; upper = expression_of b.upper }

abbrev pub declarator_of : Declarator → DeclaratorForm
declarator_of d = record { name = d.name.items; bounds = map bound_of d.bounds.items }

abbrev pub definition_of : Definition → DefinitionForm
definition_of d = record { name = d.name.items; value = expression_of d.value }

abbrev pub target_of : Target → TargetForm
target_of t =
    record { name = t.name.items; arguments = arguments_in (map expression_of t.arguments.items) }

abbrev pub assignment_of : Assignment → AssignmentForm
assignment_of a = record { target = target_of a.target; value = expression_of a.value }

abbrev pub comparison_of : Comparison → ComparisonForm
comparison_of c =
    record { left = expression_of c.left; compare = c.compare; right = expression_of c.right }

abbrev pub do_of : DoStatement → DoForm
do_of d = record {
  label = d.label;
  comma = d.comma;
  variable = d.variable.items;
  first = expression_of d.first;
  last = expression_of d.last;
  step = optional_of d.step;
}

abbrev pub printed_of : Printed → PrintedForm
printed_of (Value e) = value (expression_of e)
printed_of (Text characters) = constant characters.items

abbrev pub statement_of : Statement → StatementForm
statement_of (Program n) = program n.items
statement_of (Integer ds) = integer (map declarator_of ds.items)
statement_of (Dimension ds) = dimension (map declarator_of ds.items)
statement_of (Parameter ds) = parameter (map definition_of ds.items)
statement_of (Do loop) = do_loop (do_of loop)
statement_of (Assign a) = assign (assignment_of a)
statement_of (If c a) = logical_if (comparison_of c) (assignment_of a)
statement_of (Print items) = print (map printed_of items.items)
statement_of Continue = continue
statement_of Stop = stop
statement_of End = end
