-- One thing more of a list that is gone through.
use Rattle.std.proofs.Common.{◌≡◌, ℕ, ◌+◌, ◌<◌, List, ◌∷◌, ◌++◌, append_assoc, length, drop, get_or, ap, sym, ◌∙◌}
use Rattle.std.specs.List.{flat_map}
use Rattle.std.proofs.lemmas.Grind.{flat_map-append}
use Rattle.std.proofs.lemmas.List.{drop_more}
use Rattle.nest_tree.specs.declared.tree.Item.{Item}
use Rattle.nest_tree.specs.Tree.{Head}
use Rattle.nest_tree.specs.View.{statement_of, statements_from}
use Rattle.nest_rows.specs.Nested.{nested_among, nested_in}
use Rattle.conflict_rules.specs.References.{Reference, references_in}

-- behind what stood before, what is left of all is that of one thing less
pub one_more : {A B : Type 0} (one : A → List B) (all : List A → List B) → ((x : A) (xs : List A) → all (x ∷ xs) ≡ one x ++ all xs) → (xs : List A) (k : ℕ) (x : A) → k < length xs → x ≡ get_or xs k x →
    (start before after : List B) → before ++ all (drop k xs) ≡ start ++ all xs → after ≡ before ++ one x → after ++ all (drop (k + 1) xs) ≡ start ++ all xs
one_more one all cons xs k x lt is start before after h e =
    let d = drop_more xs k x lt in
    let l : all (drop k xs) ≡ one x ++ all (drop (k + 1) xs) = ap all d ∙ cons (get_or xs k x) (drop (k + 1) xs) ∙ ap (λ y. one y ++ all (drop (k + 1) xs)) (sym is) in
    ap (λ ys. ys ++ all (drop (k + 1) xs)) e ∙ append_assoc before (one x) (all (drop (k + 1) xs)) ∙ ap (λ ys. before ++ ys) (sym l) ∙ h

-- the accesses of statements
abbrev pub references_at : List Head → Item → List Reference
references_at heads item = flat_map references_in (nested_in heads (statement_of item))

abbrev pub references_among : List Head → List Item → List Reference
references_among heads items = flat_map references_in (nested_among heads (statements_from items))

pub references-cons : (heads : List Head) (item : Item) (items : List Item) → references_among heads (item ∷ items) ≡ references_at heads item ++ references_among heads items
references-cons heads item items = flat_map-append references_in (nested_in heads (statement_of item)) (nested_among heads (statements_from items))
