-- The names and the expressions of a statement, by its pieces.
use Rattle.std.proofs.Common.{◌≡◌, Bool, true, false, not, List, [], ◌∷◌, ◌++◌, map, filter, Option, Some, None, Vec, Global, refl, sym, ap, ◌∙◌, append_assoc}
use Rattle.std.proofs.lemmas.Grind.{flat_map-append}
use Rattle.std.proofs.lemmas.List.{append-nil}
use Rattle.std.specs.List.{flat_map}
use Rattle.f77_forms.specs.Form.{ExpressionForm, BoundForm, DeclaratorForm, DefinitionForm, PrintedForm, value, constant, StatementForm, program, integer, dimension, parameter, do_loop, assign, logical_if, print, continue, stop, end}
use Rattle.f77_scene.specs.Expressions.{list_of, names_in}
use Rattle.f77_scene.specs.Scene.{Name, Given, Scene}
use Rattle.f77_scene.specs.Statements.{optional, bound_expressions, item_expressions, assignment_expressions, is_whole, expressions_in, spots_in, names_among, names_of}
use Rattle.f77_forms.specs.View.{statement_of}
use Rattle.f77_forms.specs.declared.form.Definition.{Definition}
use Rattle.f77_forms.specs.declared.form.Statement.{Statement}
use Rattle.f77_forms.specs.declared.form.Statement.TheVariants.{Program, Integer, Dimension, Parameter, Do, Assign, If, Print, Continue, Stop, End}
use Rattle.f77_program.specs.Judged.{is_print, evaluated}
use Rattle.f77_program.specs.Pieces.{PieceForm, expressed, bound_pieces, declarator_pieces, definition_pieces, item_pieces, pieces_in, piece_names, piece_expressions}

-- ---- names

abbrev names : Scene → List PieceForm → List Name
names s ps = flat_map (piece_names s) ps

names-expressed : (s : Scene) (es : List ExpressionForm) → names s (map expressed es) ≡ names_among s es
names-expressed s [] = refl
names-expressed s (e ∷ es) = ap (λ ns. names_in s e ++ ns) (names-expressed s es)

bound-list : (b : BoundForm) → bound_pieces b ≡ map expressed (optional b.lower ++ b.upper ∷ [])
bound-list b = by_lower b.lower
  where
    by_lower : (o : Option ExpressionForm) → map expressed (optional o) ++ expressed b.upper ∷ [] ≡ map expressed (optional o ++ b.upper ∷ [])
    by_lower None = refl
    by_lower (Some e) = refl

names-bounds : (s : Scene) (bs : List BoundForm) → names s (flat_map bound_pieces bs) ≡ names_among s (bound_expressions bs)
names-bounds s [] = refl
names-bounds s (b ∷ bs) =
    flat_map-append (piece_names s) (bound_pieces b) (flat_map bound_pieces bs) ∙ ap (λ ns. ns ++ names s (flat_map bound_pieces bs)) (ap (names s) (bound-list b) ∙ names-expressed s (optional b.lower ++ b.upper ∷ []))
    ∙ ap (λ ns. names_among s (optional b.lower ++ b.upper ∷ []) ++ ns) (names-bounds s bs) ∙ sym (flat_map-append (names_in s) (optional b.lower ++ b.upper ∷ []) (bound_expressions bs))

names-declarators : (s : Scene) (ds : List DeclaratorForm) → names s (flat_map declarator_pieces ds) ≡ flat_map (λ (d : DeclaratorForm). d.name ∷ names_among s (bound_expressions d.bounds)) ds
names-declarators s [] = refl
names-declarators s (d ∷ ds) =
    flat_map-append (piece_names s) (declarator_pieces d) (flat_map declarator_pieces ds) ∙ ap (λ ns. (d.name ∷ ns) ++ names s (flat_map declarator_pieces ds)) (names-bounds s d.bounds)
    ∙ ap (λ ns. (d.name ∷ names_among s (bound_expressions d.bounds)) ++ ns) (names-declarators s ds)

names-definitions : (s : Scene) (ds : List DefinitionForm) → names s (flat_map definition_pieces ds) ≡ flat_map (λ (d : DefinitionForm). d.name ∷ names_in s d.value) ds
names-definitions s [] = refl
names-definitions s (d ∷ ds) = ap (λ ns. d.name ∷ names_in s d.value ++ ns) (names-definitions s ds)

names-items : (s : Scene) (items : List PrintedForm) → names s (flat_map item_pieces items) ≡ names_among s (flat_map item_expressions items)
names-items s [] = refl
names-items s (value e ∷ items) = ap (λ ns. names_in s e ++ ns) (names-items s items)
names-items s (constant cs ∷ items) = names-items s items

names-values : (s : Scene) (es : List ExpressionForm) (v : ExpressionForm) → names s (map expressed es ++ expressed v ∷ []) ≡ names_among s (es ++ v ∷ [])
names-values s [] v = refl
names-values s (e ∷ es) v = ap (λ ns. names_in s e ++ ns) (names-values s es v)

pub names-pieces : (s : Scene) (f : StatementForm) → names s (pieces_in f) ≡ names_of s f
names-pieces s (program n) = refl
names-pieces s (integer ds) = names-declarators s ds
names-pieces s (dimension ds) = names-declarators s ds
names-pieces s (parameter ds) = names-definitions s ds
names-pieces s (do_loop d) = ap (λ ns. d.variable ∷ names_in s d.first ++ (names_in s d.last ++ ns)) (names-expressed s (optional d.step))
names-pieces s (assign a) = ap (λ ns. a.target.name ∷ ns) (names-values s (list_of a.target.arguments) a.value)
names-pieces s (logical_if c a) =
    ap (λ ns. names_in s c.left ++ (names_in s c.right ++ a.target.name ∷ ns)) (names-values s (list_of a.target.arguments) a.value) ∙ sides (names_in s c.left) (names_in s c.right) (a.target.name ∷ names_among s (assignment_expressions a))
  where
    sides : (xs ys zs : List Name) → xs ++ (ys ++ zs) ≡ (xs ++ (ys ++ [])) ++ zs
    sides xs ys zs = sym (append_assoc xs ys zs) ∙ ap (λ ws. (xs ++ ws) ++ zs) (sym (append-nil ys))
names-pieces s (print items) = names-items s items
names-pieces s continue = refl
names-pieces s stop = refl
names-pieces s end = refl

-- ---- expressions

abbrev expressions : Scene → Bool → List PieceForm → List ExpressionForm
expressions s printed ps = flat_map (piece_expressions s printed) ps

listed : (s : Scene) (es : List ExpressionForm) → expressions s false (map expressed es) ≡ es
listed s [] = refl
listed s (e ∷ es) = ap (λ fs. e ∷ fs) (listed s es)

listed-values : (s : Scene) (es : List ExpressionForm) (v : ExpressionForm) → expressions s false (map expressed es ++ expressed v ∷ []) ≡ es ++ v ∷ []
listed-values s [] v = refl
listed-values s (e ∷ es) v = ap (λ fs. e ∷ fs) (listed-values s es v)

listed-bounds : (s : Scene) (bs : List BoundForm) → expressions s false (flat_map bound_pieces bs) ≡ bound_expressions bs
listed-bounds s [] = refl
listed-bounds s (b ∷ bs) =
    flat_map-append (piece_expressions s false) (bound_pieces b) (flat_map bound_pieces bs) ∙ ap (λ es. es ++ expressions s false (flat_map bound_pieces bs)) (ap (expressions s false) (bound-list b) ∙ listed s (optional b.lower ++ b.upper ∷ []))
    ∙ ap (λ es. (optional b.lower ++ b.upper ∷ []) ++ es) (listed-bounds s bs)

listed-declarators : (s : Scene) (ds : List DeclaratorForm) → expressions s false (flat_map declarator_pieces ds) ≡ flat_map (λ (d : DeclaratorForm). bound_expressions d.bounds) ds
listed-declarators s [] = refl
listed-declarators s (d ∷ ds) =
    flat_map-append (piece_expressions s false) (declarator_pieces d) (flat_map declarator_pieces ds) ∙ ap (λ es. es ++ expressions s false (flat_map declarator_pieces ds)) (listed-bounds s d.bounds)
    ∙ ap (λ es. bound_expressions d.bounds ++ es) (listed-declarators s ds)

listed-definitions : (s : Scene) (ds : List DefinitionForm) → expressions s false (flat_map definition_pieces ds) ≡ map (λ (d : DefinitionForm). d.value) ds
listed-definitions s [] = refl
listed-definitions s (d ∷ ds) = ap (λ es. d.value ∷ es) (listed-definitions s ds)

listed-items : (s : Scene) (items : List PrintedForm) → expressions s true (flat_map item_pieces items) ≡ filter (λ e. not (is_whole s e)) (flat_map item_expressions items)
listed-items s [] = refl
listed-items s (constant cs ∷ items) = listed-items s items
listed-items s (value e ∷ items) = by_test (is_whole s e) refl (listed-items s items)
  where
    by_test : (b : Bool) → is_whole s e ≡ b → expressions s true (flat_map item_pieces items) ≡ filter (λ x. not (is_whole s x)) (flat_map item_expressions items)
        → expressions s true (flat_map item_pieces (value e ∷ items)) ≡ filter (λ x. not (is_whole s x)) (flat_map item_expressions (value e ∷ items))
    by_test true h rest = rw h rest
    by_test false h rest = rw h (ap (λ es. e ∷ es) rest)

pub listed-pieces : (s : Scene) (f : StatementForm) → expressions s (is_print f) (pieces_in f) ≡ expressions_in s f
listed-pieces s (program n) = refl
listed-pieces s (integer ds) = listed-declarators s ds
listed-pieces s (dimension ds) = listed-declarators s ds
listed-pieces s (parameter ds) = listed-definitions s ds
listed-pieces s (do_loop d) = ap (λ es. d.first ∷ d.last ∷ es) (listed s (optional d.step))
listed-pieces s (assign a) = listed-values s (list_of a.target.arguments) a.value
listed-pieces s (logical_if c a) = ap (λ es. c.left ∷ c.right ∷ es) (listed-values s (list_of a.target.arguments) a.value)
listed-pieces s (print items) = listed-items s items
listed-pieces s continue = refl
listed-pieces s stop = refl
listed-pieces s end = refl

-- ---- statements but PARAMETER

pub stays : (given : Given) (s : Scene) (st : Statement) → ((ds : Vec Definition Global) → st ≡ Parameter ds → ⊥)
    → (map (λ e. (s, e)) (expressions_in s (statement_of st)) ≡ spots_in given s (statement_of st)) × (s ≡ evaluated given s (statement_of st))
stays given s (Program n) h = (refl, refl)
stays given s (Integer ds) h = (refl, refl)
stays given s (Dimension ds) h = (refl, refl)
stays given s (Parameter ds) h = absurd (h ds refl)
stays given s (Do d) h = (refl, refl)
stays given s (Assign a) h = (refl, refl)
stays given s (If x a) h = (refl, refl)
stays given s (Print items) h = (refl, refl)
stays given s Continue h = (refl, refl)
stays given s Stop h = (refl, refl)
stays given s End h = (refl, refl)
