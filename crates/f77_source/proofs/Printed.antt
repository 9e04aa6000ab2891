-- The subscripts in the items of a PRINT.
use Rattle.std.proofs.Common.{◌≡◌, Bool, true, false, not, List, [], ◌∷◌, ◌++◌, filter, if◌then◌else◌, refl, ap}
use Rattle.std.specs.List.{flat_map}
use Rattle.f77_forms.specs.Form.{ExpressionForm, number, name, call, parenthesized, signed, binary, PrintedForm, value, constant}
use Rattle.f77_scene.specs.Scene.{Scene, is_array}
use Rattle.f77_scene.specs.Statements.{is_whole, item_expressions}
use Rattle.f77_scene.specs.Tests.{subscripts_in}
use Rattle.f77_source.specs.Items.{item_subscripts}

-- of all items, and of those that are no whole array
pub printed-subscripts : (s : Scene) (items : List PrintedForm) → flat_map (item_subscripts s) items ≡ flat_map (subscripts_in s) (filter (λ e. not (is_whole s e)) (flat_map item_expressions items))
printed-subscripts s [] = refl
printed-subscripts s (constant characters ∷ items) = printed-subscripts s items
printed-subscripts s (value (number ds) ∷ items) = ap (λ es. subscripts_in s (number ds) ++ es) (printed-subscripts s items)
printed-subscripts s (value (name n) ∷ items) = by_test (is_array s n) (printed-subscripts s items)
  where
    rest : List ExpressionForm
    rest = filter (λ e. not (is_whole s e)) (flat_map item_expressions items)

    by_test : (b : Bool) → flat_map (item_subscripts s) items ≡ flat_map (subscripts_in s) rest → flat_map (item_subscripts s) items ≡ flat_map (subscripts_in s) (if not b then name n ∷ rest else rest)
    by_test true h = h
    by_test false h = h
printed-subscripts s (value (call n es) ∷ items) = ap (λ xs. subscripts_in s (call n es) ++ xs) (printed-subscripts s items)
printed-subscripts s (value (parenthesized e) ∷ items) = ap (λ es. subscripts_in s (parenthesized e) ++ es) (printed-subscripts s items)
printed-subscripts s (value (signed sign e) ∷ items) = ap (λ es. subscripts_in s (signed sign e) ++ es) (printed-subscripts s items)
printed-subscripts s (value (binary op a b) ∷ items) = ap (λ es. subscripts_in s (binary op a b) ++ es) (printed-subscripts s items)
