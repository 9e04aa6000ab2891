-- The items of a PRINT, one after another.
use Rattle.std.proofs.Common.{◌≡◌, ℕ, ◌+◌, ◌-◌, ◌<◌, ◌≤◌, ℤ, true, List, ◌∷◌, ◌++◌, drop, length, length-drop, map, get_or, refl, ap, sym, ◌∙◌, arith}
use Rattle.std.specs.List.{list_all}
use Rattle.std.proofs.lemmas.Bool.{and_parts}
use Rattle.std.proofs.lemmas.List.Sums.{sum_by-cons}
use Rattle.std.proofs.lemmas.List.{drop_more, get_or-map, length-map}
use Rattle.nest_tree.specs.Layout.{bounds_of, element_count}
use Rattle.nest_tree.specs.Tree.{Printed, value, whole, text, Tree}
use Rattle.nest_tree.specs.View.{printed_of, tree_of}
use Rattle.nest_tree.specs.WellFormed.{IsWellFormed}
use Rattle.nest_tree.specs.declared.tree.PrintItem.{PrintItem}
use Rattle.nest_tree.specs.declared.program.Program.{Program}
use Rattle.nest_tree.specs.declared.tree.Variable.{Variable}
use Rattle.nest_tree.proofs.Cells.{declared-numbered}
use Rattle.nest_tree.proofs.Places.{element_count-some}
use Rattle.nest_model.specs.Memory.{items_text}
use Rattle.nest_walk.proofs.CellPlaces.{bounds-good}
use Rattle.seq_meaning.specs.Lines.{has_text, item_load_count, item_text, items_load_count}
use Rattle.seq_meaning.specs.Room.{longest_item, longest_items}

-- the items from one on
items_more : (items : List PrintItem) (i : ℕ) (item : PrintItem) → i < length items → item ≡ get_or items i item → drop i (map printed_of items) ≡ printed_of item ∷ drop (i + 1) (map printed_of items)
items_more items i item lt is =
    let count : i < length (map printed_of items) = omega (arith, length-map items printed_of) in
    drop_more (map printed_of items) i (printed_of item) count ∙ ap (λ p. p ∷ drop (i + 1) (map printed_of items)) (get_or-map printed_of items i item (printed_of item) lt ∙ ap printed_of (sym is))

pub first_item : (tree : Tree) (loops : ℕ) (items : List PrintItem) (i : ℕ) (item : PrintItem) → i < length items → item ≡ get_or items i item → list_all (has_text tree loops) (drop i (map printed_of items)) ≡ true →
    (has_text tree loops (printed_of item) ≡ true) × (list_all (has_text tree loops) (drop (i + 1) (map printed_of items)) ≡ true)
first_item tree loops items i item lt is h =
    and_parts (has_text tree loops (printed_of item)) (list_all (has_text tree loops) (drop (i + 1) (map printed_of items))) (sym (ap (list_all (has_text tree loops)) (items_more items i item lt is)) ∙ h)

pub load_count_more : (tree : Tree) (items : List PrintItem) (i : ℕ) (item : PrintItem) → i < length items → item ≡ get_or items i item →
    items_load_count tree (drop i (map printed_of items)) ≡ item_load_count tree (printed_of item) + items_load_count tree (drop (i + 1) (map printed_of items))
load_count_more tree items i item lt is = ap (items_load_count tree) (items_more items i item lt is) ∙ sum_by-cons (item_load_count tree) (printed_of item) (drop (i + 1) (map printed_of items))

pub longest_more : (tree : Tree) (items : List PrintItem) (i : ℕ) (item : PrintItem) → i < length items → item ≡ get_or items i item →
    longest_items tree (drop i (map printed_of items)) ≡ longest_item tree (printed_of item) + longest_items tree (drop (i + 1) (map printed_of items))
longest_more tree items i item lt is = ap (longest_items tree) (items_more items i item lt is) ∙ sum_by-cons (longest_item tree) (printed_of item) (drop (i + 1) (map printed_of items))

one_item : (tree : Tree) (loops : List ℤ) (p : Printed) (rest : List Printed) (loaded : List ℤ) →
    items_text tree loops (p ∷ rest) loaded ≡ item_text tree loops p loaded ++ items_text tree loops rest (drop (item_load_count tree p) loaded)
one_item tree loops (value e) rest loaded = refl
one_item tree loops (whole variable) rest loaded = refl
one_item tree loops (text characters) rest loaded = refl

pub text_more : (tree : Tree) (loops : List ℤ) (items : List PrintItem) (i : ℕ) (item : PrintItem) (loaded : List ℤ) → i < length items → item ≡ get_or items i item →
    items_text tree loops (drop i (map printed_of items)) loaded ≡ item_text tree loops (printed_of item) loaded ++ items_text tree loops (drop (i + 1) (map printed_of items)) (drop (item_load_count tree (printed_of item)) loaded)
text_more tree loops items i item loaded lt is =
    ap (λ ps. items_text tree loops ps loaded) (items_more items i item lt is) ∙ one_item tree loops (printed_of item) (drop (i + 1) (map printed_of items)) loaded

-- a whole array: how many elements it has, which stand in what was loaded
pub record WholeArray (tree : Tree) (variable count at : ℕ) (loaded : List ℤ) : Type 0 where
  pub count_is : count ≡ element_count (bounds_of tree variable)
  pub within : at + count ≤ length loaded

pub whole_array : (p : Program) (variable count at : ℕ) (loaded : List ℤ) (v : Variable) → IsWellFormed (tree_of p) → 1 ≤ variable → variable ≤ length (tree_of p).variables → v ≡ get_or p.variables.items (variable - 1) v →
    count ≡ element_count v.bounds.items → element_count (bounds_of (tree_of p) variable) ≤ length (drop at loaded) → WholeArray (tree_of p) variable count at loaded
whole_array p variable count at loaded v formed low high is counted loads =
    let d = declared-numbered p variable v formed low high is in
    let same : count ≡ element_count (bounds_of (tree_of p) variable) = counted ∙ ap element_count (sym d.bounds) in
    let some = element_count-some (bounds_of (tree_of p) variable) (bounds-good (tree_of p) variable formed) in
    record { count_is = same; within = omega (arith, same, some, loads, length-drop at loaded) }
