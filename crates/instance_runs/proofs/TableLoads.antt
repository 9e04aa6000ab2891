-- How many entries a table of cells has, and that each load of it gives a value.
use Rattle.std.proofs.Common.{◌≡◌, ℕ, zero, suc, ◌<◌, List, [], ◌∷◌, length, length-append, Some, None, refl, subst, ◌∙◌, arith}
use Rattle.std.specs.Prelude.{slice_get}
use Rattle.std.specs.List.{AllZip}
use Rattle.std.proofs.lemmas.Slice.Zip.{AllZip-long}
use Rattle.nest_tree.specs.Layout.{bounds_of}
use Rattle.nest_tree.specs.Tree.{Statement, Statements, do_loop, work, continue, done, next, Tree}
use Rattle.nest_tree.specs.WellFormed.{IsWellFormed}
use Rattle.nest_tree.proofs.Places.{element_count-some}
use Rattle.nest_model.specs.Instances.{works_of}
use Rattle.nest_model.specs.Visits.{every}
use Rattle.nest_walk.specs.Tables.{AreLoadCells, ArePlacedCells, AreWorkCells, IsCellTable, Loaded, element, array, entries, loaded_in_work}
use Rattle.nest_walk.specs.Texts.{Placed, placed_in, placed_of, works}
use Rattle.nest_walk.specs.declared.table.CellTable.{CellTable}
use Rattle.nest_walk.specs.declared.table.LoadCells.{LoadCells}
use Rattle.nest_walk.specs.declared.table.LoadCells.TheVariants.{Element, Array}
use Rattle.nest_walk.specs.declared.table.WorkCells.{WorkCells}
use Rattle.nest_walk.proofs.CellPlaces.{bounds-good}
use Rattle.nest_walk.proofs.TextMoves.{works-all}
use Rattle.sync_plan.proofs.PhasePlaces.{placed_count}
use Rattle.instance_runs.specs.Loads.{width, AreWide}

works_long : (ss : Statements) → length (placed_of every [] ss) ≡ works_of ss
works_long done = refl
works_long (next s rest) = omega (arith, length-append (placed_in every [] s) (placed_of every [] rest), placed_count every [] s, works-all s, works_long rest)

pub table_long : (tree : Tree) (table : CellTable) → IsCellTable tree table → length (entries table) ≡ works_of tree.items
table_long tree table are = AllZip-long (ArePlacedCells tree) (works tree) (entries table) are ∙ works_long tree.items

-- what stands beside an element
zipped_at : {A B : Type 0} (R : A → B → Type 0) (xs : List A) (ys : List B) (k : ℕ) (y : B) → AllZip R xs ys → slice_get ys k ≡ Some y → (x : A) × R x y
zipped_at R xs [] k y all at = absurd (let no : None ≡ Some y = at in cc)
zipped_at R [] (z ∷ ys) k y all at = absurd all
zipped_at R (x ∷ xs) (z ∷ ys) zero y all at = let same : z ≡ y = cc in (x, subst (R x) same all.0)
zipped_at R (x ∷ xs) (z ∷ ys) (suc k) y all at = zipped_at R xs ys k y all.1 at

load_wide : (tree : Tree) (around : List ℕ) (loaded : Loaded) (l : LoadCells) → IsWellFormed tree → AreLoadCells tree around loaded l → 0 < width l
load_wide tree around (element a) (Element form) formed are = omega arith
load_wide tree around (element a) (Array first count) formed are = absurd are
load_wide tree around (array variable) (Element form) formed are = absurd are
load_wide tree around (array variable) (Array first count) formed are = omega (arith, are.1, element_count-some (bounds_of tree variable) (bounds-good tree variable formed))

entry_wide : (tree : Tree) (placed : Placed) (cells : WorkCells) (k : ℕ) (l : LoadCells) → IsWellFormed tree → ArePlacedCells tree placed cells → slice_get cells.loads.items k ≡ Some l → 0 < width l
entry_wide tree placed cells k l formed are at = by placed.what are
  where
    by : (s : Statement) → AreWorkCells tree placed.around s cells → 0 < width l
    by (do_loop head body) h = absurd h
    by (work w) h = let (loaded, here) = zipped_at (AreLoadCells tree placed.around) (loaded_in_work w) cells.loads.items k l h.loaded at in load_wide tree placed.around loaded l formed here
    by (continue line) h = absurd h

pub table_wide : (tree : Tree) (table : CellTable) → IsWellFormed tree → IsCellTable tree table → AreWide (entries table)
table_wide tree table formed are = λ n k cells l at there.
    let (placed, here) = zipped_at (ArePlacedCells tree) (works tree) (entries table) n cells are at in
    entry_wide tree placed cells k l formed here there
