-- Texts one behind another.
use Rattle.std.proofs.Common.{◌≡◌, ℕ, ◌+◌, ◌<◌, List, [], ◌∷◌, ◌++◌, length, get_or, take, sym, ap, ◌∙◌, append-nil}
use Rattle.std.specs.List.{flat_map}
use Rattle.std.proofs.lemmas.List.{take_more}
use Rattle.std.proofs.lemmas.Grind.{flat_map-append}
use Rattle.list_lemmas.proofs.Appending.{append_two}

-- the text of one item more
pub item_joined : {X : Type 0} (f : X → List ℕ) (xs : List X) (i : ℕ) (x : X) (old middle new : List ℕ) → i < length xs → x ≡ get_or xs i x → middle ≡ old ++ flat_map f (take i xs) → new ≡ middle ++ f x → new ≡ old ++ flat_map f (take (i + 1) xs)
item_joined f xs i x old middle new lt is before more =
    let items = take_more xs i x lt ∙ ap (λ y. take i xs ++ y ∷ []) (sym is) in
    let texts = ap (flat_map f) items ∙ flat_map-append f (take i xs) (x ∷ []) ∙ ap (λ t. flat_map f (take i xs) ++ t) (append-nil (f x)) in
    append_two old middle new (flat_map f (take i xs)) (f x) before more ∙ ap (λ t. old ++ t) (sym texts)
