-- The places of cells among those of own scalars.
use Rattle.std.proofs.Common.{◌≡◌, ◌==◌, ℕ, ◌+◌, Bool, not, cond, nat_lt, List, [], ◌∷◌, length, map, Some, None, refl, ap, ◌∙◌}
use Rattle.std.specs.Prelude.{position}
use Rattle.std.specs.List.{position_or_len, prefix_len}
use Rattle.std.proofs.lemmas.List.{length-map}
use Rattle.nest_tree.specs.Layout.{first_cell}
use Rattle.nest_tree.specs.Tree.{Tree}
use Rattle.sync_plan.specs.Own.{place_in}
use Rattle.own_cells.specs.OwnCells.{cells_of}

prefix-map : (f : ℕ → ℕ) (p : ℕ → Bool) (xs : List ℕ) → prefix_len p (map f xs) ≡ prefix_len (λ x. p (f x)) xs
prefix-map f p [] = refl
prefix-map f p (x ∷ xs) = ap (λ n. cond (p (f x)) (1 + n) 0) (prefix-map f p xs)

position-map : (f : ℕ → ℕ) (q : ℕ → Bool) (xs : List ℕ) → position q (map f xs) ≡ position (λ x. q (f x)) xs
position-map f q xs =
    ap (λ n. cond (nat_lt n (length (map f xs))) (Some n) None) (prefix-map f (λ y. not (q y)) xs)
    ∙ ap (λ n. cond (nat_lt (position_or_len (λ x. q (f x)) xs) n) (Some (position_or_len (λ x. q (f x)) xs)) None) (length-map xs f)

-- among the cells of some scalars
pub placed : (tree : Tree) (scalars cells : List ℕ) (c : ℕ) → cells ≡ cells_of tree scalars → position (λ n. n == c) cells ≡ place_in tree scalars c
placed tree scalars cells c are = ap (position (λ n. n == c)) are ∙ position-map (first_cell tree) (λ n. n == c) scalars
