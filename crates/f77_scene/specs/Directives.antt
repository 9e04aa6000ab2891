-- Directives: how arrays are distributed.
use Rattle.std.specs.Prelude.{ℕ, zero, suc, ◌==◌, nat_le, ◌&&◌, if◌then◌else◌, List, [], ◌∷◌, ◌++◌, drop, codes, ◌≡◌, refl}
use Rattle.std.specs.Str.{bytes_eq}
use Rattle.nest_tree.specs.declared.tree.Spread.{Spread}
use Rattle.nest_tree.specs.declared.tree.Spread.TheVariants.{Block, Cyclic}
use Rattle.f77_scene.specs.Scene.{Name}

abbrev pub word_of : Spread → List ℕ
word_of Block = codes "BLOCK"
word_of Cyclic = codes "CYCLIC"

-- one dimension is distributed
abbrev pub Placing : Type 0
Placing = ℕ × Spread

-- the items of so many dimensions from number `first` on, each behind a comma (44): a word for the distributed one, and `*` (42) for any other
abbrev pub items_text : ℕ → ℕ → Placing → List ℕ
items_text zero first placing = []
items_text (suc count) first placing = 44
    ∷ (if first == placing.0 then word_of placing.1 else 42 ∷ [])
    ++ items_text count (suc first) placing

-- the text of the directive that places an array of so many dimensions so
abbrev pub directive_text : Name → ℕ → Placing → List ℕ
directive_text n dimensions placing = n ++ 40 ∷ drop 1 (items_text dimensions 1 placing) ++ 41 ∷ []

-- all ways to place an array
abbrev pub placings : List Placing
placings = (1, Block) ∷ (1, Cyclic) ∷ (2, Block) ∷ (2, Cyclic) ∷ (3, Block) ∷ (3, Cyclic) ∷ []

-- the one of these that a directive gives an array, or how it is placed already; a directive of another shape or another array has no effect
abbrev pub placed_by : List Placing → List ℕ → Name → ℕ → Placing → Placing
placed_by [] text n dimensions so_far = so_far
placed_by (p ∷ ps) text n dimensions so_far =
    if nat_le p.0 dimensions && bytes_eq text (directive_text n dimensions p)
    then p
    else placed_by ps text n dimensions so_far

-- of two directives for one array the later counts
abbrev pub placed_after : List (List ℕ) → Name → ℕ → Placing → Placing
placed_after [] n dimensions so_far = so_far
placed_after (text ∷ texts) n dimensions so_far =
    placed_after texts n dimensions (placed_by placings text n dimensions so_far)

-- how an array is placed; without a directive in blocks along its last dimension
abbrev pub placed : List (List ℕ) → Name → ℕ → Placing
placed texts n dimensions = placed_after texts n dimensions (dimensions, Block)

-- ---- an example

abbrev texts : List (List ℕ)
texts =
    codes "A(BLOCK,*)" ∷ codes "A(*,CYCLIC)" ∷ codes "B(BLOCK,BLOCK)" ∷ codes "C(*,*,CYCLIC)" ∷ []

-- A is dealt along its second dimension; the directive of B has another shape
pub placed-example : placed texts (codes "A") 2 ∷ placed texts (codes "B") 2
    ∷ placed texts (codes "C") 3 ∷ placed texts (codes "D") 1 ∷ []
    ≡ (2, Cyclic) ∷ (2, Block) ∷ (3, Cyclic) ∷ (1, Block) ∷ []
placed-example = refl
