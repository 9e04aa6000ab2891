-- The statements of `bench`'s program, with any digits as its sizes.
use Rattle.std.specs.Prelude.{ℕ, List, [], ◌∷◌, ◌++◌, None, Ok, Some, codes, false, map}
use Rattle.f77_lines.specs.Statements.{Entry, statement}
use Rattle.f77_forms.specs.declared.form.Operator.TheVariants.{Add, Subtract, Multiply, Divide}
use Rattle.f77_forms.specs.Form.{DeclaratorForm, DoForm, ExpressionForm, StatementForm, arguments_in, assign, binary, call, continue, do_loop, end, integer, name, number, parameter, parenthesized, print, program, value}
use Rattle.f77_scene.specs.Reading.{SourceStatement}

-- a statement by its line, its label and its text, with the form that the text has
pub record Row : Type 0 where
  pub line : ℕ
  pub label : ℕ
  pub text : List ℕ
  pub form : StatementForm

abbrev pub entry_of : Row → Entry
entry_of r = statement r.line r.label r.text

abbrev pub stated : Row → SourceStatement
stated r = record { line = r.line; label = r.label; reading = Ok r.form }

-- ---- expressions

abbrev pub n_name : ExpressionForm
n_name = name (codes "N")

abbrev pub i_name : ExpressionForm
i_name = name (codes "I")

abbrev pub one : ExpressionForm
one = number (codes "1")

abbrev pub element : List ℕ → ExpressionForm → ExpressionForm
element n subscript = call n (arguments_in (subscript ∷ []))

abbrev pub scalar : List ℕ → DeclaratorForm
scalar n = record { name = n; bounds = [] }

-- from 0 to N+1
abbrev pub row_of_points : List ℕ → DeclaratorForm
row_of_points n = record { name = n; bounds = record { lower = Some (number (codes "0")); upper = binary Add n_name one } ∷ [] }

abbrev pub loop : List ℕ → List ℕ → ExpressionForm → ExpressionForm → DoForm
loop label variable first last = record { label = label; comma = false; variable = variable; first = first; last = last; step = None }

-- ---- statements

-- PARAMETER, and its text
abbrev pub sizes : List ℕ → List ℕ → StatementForm
sizes ds es = parameter (record { name = codes "N"; value = number ds } ∷ record { name = codes "M"; value = number es } ∷ [])

abbrev pub sizes_text : List ℕ → List ℕ → List ℕ
sizes_text ds es = codes "PARAMETER(N=" ++ (ds ++ (codes ",M=" ++ (es ++ codes ")")))

abbrev pub rows_behind : List Row
rows_behind =
    record { line = 4; label = 0; text = codes "INTEGERA(0:N+1),B(0:N+1)"; form = integer (row_of_points (codes "A") ∷ row_of_points (codes "B") ∷ []) }
    ∷ record { line = 5; label = 0; text = codes "DO10I=0,N+1"; form = do_loop (loop (codes "10") (codes "I") (number (codes "0")) (binary Add n_name one)) }
    ∷ record {
      line = 6;
      label = 10;
      text = codes "A(I)=7*I-I*I";
      form = assign (record {
        target = record { name = codes "A"; arguments = arguments_in (i_name ∷ []) };
        value = binary Subtract (binary Multiply (number (codes "7")) i_name) (binary Multiply i_name i_name);
      });
    }
    ∷ record { line = 7; label = 0; text = codes "DO40IT=1,M"; form = do_loop (loop (codes "40") (codes "IT") one (name (codes "M"))) }
    ∷ record { line = 8; label = 0; text = codes "DO20I=1,N"; form = do_loop (loop (codes "20") (codes "I") one n_name) }
    ∷ record {
      line = 9;
      label = 20;
      text = codes "B(I)=(A(I-1)+A(I+1))/2";
      form = assign (record {
        target = record { name = codes "B"; arguments = arguments_in (i_name ∷ []) };
        value = binary Divide (parenthesized (binary Add (element (codes "A") (binary Subtract i_name one)) (element (codes "A") (binary Add i_name one)))) (number (codes "2"));
      });
    }
    ∷ record { line = 10; label = 0; text = codes "DO30I=1,N"; form = do_loop (loop (codes "30") (codes "I") one n_name) }
    ∷ record {
      line = 11;
      label = 30;
      text = codes "A(I)=B(I)";
      form = assign (record { target = record { name = codes "A"; arguments = arguments_in (i_name ∷ []) }; value = element (codes "B") i_name });
    }
    ∷ record { line = 12; label = 40; text = codes "CONTINUE"; form = continue }
    ∷ record { line = 13; label = 0; text = codes "PRINT*,A(1),A(N)"; form = print (value (element (codes "A") one) ∷ value (element (codes "A") n_name) ∷ []) }
    ∷ record { line = 14; label = 0; text = codes "END"; form = end }
    ∷ []

abbrev pub rows : List ℕ → List ℕ → List Row
rows ds es =
    record { line = 1; label = 0; text = codes "PROGRAMBENCH"; form = program (codes "BENCH") }
    ∷ record { line = 2; label = 0; text = codes "INTEGERN,M"; form = integer (scalar (codes "N") ∷ scalar (codes "M") ∷ []) }
    ∷ record { line = 3; label = 0; text = sizes_text ds es; form = sizes ds es }
    ∷ rows_behind

abbrev pub statements : List ℕ → List ℕ → List SourceStatement
statements ds es = map stated (rows ds es)

abbrev pub entries : List ℕ → List ℕ → List Entry
entries ds es = map entry_of (rows ds es)
