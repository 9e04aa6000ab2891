-- The names and the expressions of a statement, in the order of the text.
use Rattle.std.specs.Prelude.{ℕ, Bool, ◌&&◌, if◌then◌else◌, List, [], ◌∷◌, ◌++◌, map}
use Rattle.std.specs.Borrow.{Bor}
use Rattle.std.specs.List.{flat_map}
use Rattle.f77_forms.specs.Form.{ExpressionForm, BoundForm, DeclaratorForm, DefinitionForm, AssignmentForm, DoForm, PrintedForm, value, constant, StatementForm, program, integer, dimension, parameter, do_loop, assign, logical_if, print, continue, stop, end}
use Rattle.f77_forms.specs.View.{expression_of}
use Rattle.f77_scene.specs.Expressions.{list_of, names_in}
use Rattle.f77_scene.specs.Scene.{Name, Scene}
use Rattle.f77_scene.specs.Statements.{optional, is_whole}
use Rattle.f77_program.specs.declared.pieces.Piece.{Piece}
use Rattle.f77_program.specs.declared.pieces.Piece.TheVariants as declared

-- a name that is declared, defined or stored to, or an expression
pub data PieceForm : Type 0 where
  named : (n : Name) → PieceForm
  expressed : (e : ExpressionForm) → PieceForm

abbrev pub piece_of : Piece → PieceForm
piece_of (declared.Name n) = named n.now
piece_of (declared.Expression e) = expressed (expression_of e.now)

abbrev pub pieces_view : List Piece → List PieceForm
pieces_view ps = map piece_of ps

-- names behind references
abbrev pub names_view : List (Bor (List ℕ)) → List Name
names_view ns = map (λ (n : Bor (List ℕ)). n.now) ns

abbrev pub bound_pieces : BoundForm → List PieceForm
bound_pieces b = map expressed (optional b.lower) ++ expressed b.upper ∷ []

abbrev pub declarator_pieces : DeclaratorForm → List PieceForm
declarator_pieces d = named d.name ∷ flat_map bound_pieces d.bounds

abbrev pub definition_pieces : DefinitionForm → List PieceForm
definition_pieces d = named d.name ∷ expressed d.value ∷ []

abbrev pub assignment_pieces : AssignmentForm → List PieceForm
assignment_pieces a =
    named a.target.name ∷ map expressed (list_of a.target.arguments) ++ expressed a.value ∷ []

abbrev pub do_pieces : DoForm → List PieceForm
do_pieces d =
    named d.variable ∷ expressed d.first ∷ expressed d.last ∷ map expressed (optional d.step)

abbrev pub item_pieces : PrintedForm → List PieceForm
item_pieces (value e) = expressed e ∷ []
item_pieces (constant characters) = []

abbrev pub pieces_in : StatementForm → List PieceForm
pieces_in (program n) = []
pieces_in (integer ds) = flat_map declarator_pieces ds
pieces_in (dimension ds) = flat_map declarator_pieces ds
pieces_in (parameter ds) = flat_map definition_pieces ds
pieces_in (do_loop d) = do_pieces d
pieces_in (assign a) = assignment_pieces a
pieces_in (logical_if c a) = expressed c.left ∷ expressed c.right ∷ assignment_pieces a
pieces_in (print items) = flat_map item_pieces items
pieces_in continue = []
pieces_in stop = []
pieces_in end = []

-- ---- names and expressions among pieces

abbrev pub piece_names : Scene → PieceForm → List Name
piece_names s (named n) = n ∷ []
piece_names s (expressed e) = names_in s e

-- without the whole arrays of a PRINT
abbrev pub piece_expressions : Scene → Bool → PieceForm → List ExpressionForm
piece_expressions s printed (named n) = []
piece_expressions s printed (expressed e) = if printed && is_whole s e then [] else e ∷ []
