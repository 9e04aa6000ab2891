-- An expression and its parts.
use Rattle.std.proofs.Common.{◌≡◌, ℕ, ◌==◌, false, ◌&&◌, not, List, [], ◌∷◌, ◌++◌, length, map, reverse, Bor, Vec, Global, refl, sym, ap, ◌∙◌, arith, append_assoc}
use Rattle.std.proofs.lemmas.Grind.{flat_map-append}
use Rattle.std.proofs.lemmas.List.{append-nil, map_push, reverse-append, reverse-reverse}
use Rattle.std.specs.List.{flat_map}
use Rattle.f77_forms.proofs.Called.{expression_of-Call}
use Rattle.f77_forms.specs.declared.form.Expression.{Expression, Call}
use Rattle.f77_forms.specs.Form.{ExpressionForm, number, name, call, parenthesized, signed, binary, ArgumentForms, no_more, one_more, arguments_in}
use Rattle.f77_forms.specs.View.{expression_of}
use Rattle.std.proofs.lemmas.Bool.Decides.{nat_tests}
use Rattle.f77_scene.specs.Scene.{Scene, is_array, is_function, bounds_named}
use Rattle.f77_scene.specs.Tests.{is_lone_call, has_wrong_subscripts}
use Rattle.f77_program.specs.Marks.{has_other_rank}
use Rattle.f77_scene.specs.Expressions.{parts_of, parts_among, list_of}
use Rattle.f77_program.specs.Operands.{operands_of, forms_of}

pub parts_among-list : (es : ArgumentForms) → parts_among es ≡ flat_map parts_of (list_of es)
parts_among-list no_more = refl
parts_among-list (one_more e rest) = ap (λ ps. parts_of e ++ ps) (parts_among-list rest)

pub listed_arguments : (es : List ExpressionForm) → list_of (arguments_in es) ≡ es
listed_arguments [] = refl
listed_arguments (e ∷ es) = ap (λ rest. e ∷ rest) (listed_arguments es)

pub parts_of-operands : (e : ExpressionForm) → parts_of e ≡ e ∷ flat_map parts_of (operands_of e)
parts_of-operands (number ds) = refl
parts_of-operands (name n) = refl
parts_of-operands (call n es) = ap (λ ps. call n es ∷ ps) (parts_among-list es)
parts_of-operands (parenthesized e) = ap (λ ps. parenthesized e ∷ ps) (sym (append-nil (parts_of e)))
parts_of-operands (signed sign e) = ap (λ ps. signed sign e ∷ ps) (sym (append-nil (parts_of e)))
parts_of-operands (binary op a b) = ap (λ ps. binary op a b ∷ parts_of a ++ ps) (sym (append-nil (parts_of b)))

pub operands_of-Call : (n : Vec ℕ Global) (es : Vec Expression Global) → operands_of (expression_of (Call n es)) ≡ map expression_of es.items
operands_of-Call n es = ap operands_of (expression_of-Call n es) ∙ listed_arguments (map expression_of es.items)

-- what is still to come, the last one waiting first
pub to_come : (w new : List ExpressionForm) (p : ExpressionForm) → new ≡ w ++ reverse (operands_of p) → flat_map parts_of (reverse (w ++ p ∷ [])) ≡ p ∷ flat_map parts_of (reverse new)
to_come w new p h =
    ap (flat_map parts_of) (reverse-append w (p ∷ [])) ∙ ap (λ ps. ps ++ flat_map parts_of (reverse w)) (parts_of-operands p)
    ∙ ap (λ ps. p ∷ ps) (sym (flat_map-append parts_of (operands_of p) (reverse w)) ∙ ap (λ es. flat_map parts_of (es ++ reverse w)) (sym (reverse-reverse (operands_of p))) ∙ ap (flat_map parts_of) (sym (reverse-append w (reverse (operands_of p)))) ∙ ap (λ es. flat_map parts_of (reverse es)) (sym h))

-- one part more is taken from those that wait
pub one_taken : (parts parts' waiting waiting' rest : List (Bor Expression)) (p : Bor Expression) → waiting ≡ rest ++ p ∷ [] → forms_of waiting' ≡ forms_of rest ++ reverse (operands_of (expression_of p.now)) → parts' ≡ parts ++ p ∷ []
    → (flat_map parts_of (reverse (forms_of waiting)) ≡ expression_of p.now ∷ flat_map parts_of (reverse (forms_of waiting')))
    × (forms_of parts' ++ flat_map parts_of (reverse (forms_of waiting')) ≡ forms_of parts ++ flat_map parts_of (reverse (forms_of waiting)))
one_taken parts parts' waiting waiting' rest p w new more = (next, joined)
  where
    e : ExpressionForm
    e = expression_of p.now

    next : flat_map parts_of (reverse (forms_of waiting)) ≡ e ∷ flat_map parts_of (reverse (forms_of waiting'))
    next = ap (λ ps. flat_map parts_of (reverse (forms_of ps))) w ∙ ap (λ es. flat_map parts_of (reverse es)) (map_push (λ (q : Bor Expression). expression_of q.now) rest p) ∙ to_come (forms_of rest) (forms_of waiting') e new

    joined : forms_of parts' ++ flat_map parts_of (reverse (forms_of waiting')) ≡ forms_of parts ++ flat_map parts_of (reverse (forms_of waiting))
    joined =
        ap (λ ps. forms_of ps ++ flat_map parts_of (reverse (forms_of waiting'))) more ∙ ap (λ es. es ++ flat_map parts_of (reverse (forms_of waiting'))) (map_push (λ (q : Bor Expression). expression_of q.now) parts p)
        ∙ append_assoc (forms_of parts) (e ∷ []) (flat_map parts_of (reverse (forms_of waiting'))) ∙ ap (λ es. forms_of parts ++ es) (sym next)

-- ---- names with arguments

pub lone : (s : Scene) (n : List ℕ) (es : List ExpressionForm) → is_lone_call s (call n (arguments_in es)) ≡ ((length es == 1) && is_function s n)
lone s n [] = refl
lone s n (e ∷ []) = refl
lone s n (e ∷ f ∷ es) = let other : (length (e ∷ f ∷ es) == 1) ≡ false = grind (arith, nat_tests) in rw other refl

pub subscripted : (s : Scene) (n : List ℕ) (es : List ExpressionForm) → has_wrong_subscripts s (call n (arguments_in es)) ≡ has_other_rank s n (length es)
subscripted s n es = ap (λ fs. is_array s n && not (length fs == length (bounds_named s.arrays n))) (listed_arguments es)
