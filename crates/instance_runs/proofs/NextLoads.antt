-- The value that an instance loads next.
use Rattle.std.proofs.Common.{◌≡◌, ◌≢◌, ℕ, suc, ◌+◌, ◌-◌, ◌<◌, ◌≤◌, ℤ, List, [], ◌++◌, length, get_or, Option, Some, None, refl, sym, ◌∙◌, ap, subst, arith}
use Rattle.std.specs.Prelude.{slice_get}
use Rattle.std.specs.List.{flat_map}
use Rattle.std.proofs.lemmas.Option.{slice_get-get_or, slice_get_past}
use Rattle.nest_tree.specs.Tree.{Tree}
use Rattle.nest_tree.specs.View.{statement_of}
use Rattle.nest_model.specs.Accesses.{loads_of}
use Rattle.nest_walk.specs.Paths.{by_depth}
use Rattle.nest_walk.specs.RoundsOf.{rounds_of}
use Rattle.nest_walk.specs.Tables.{entries}
use Rattle.nest_walk.specs.declared.cursor.Stop.{Stop}
use Rattle.nest_walk.specs.declared.path.Path.{Path}
use Rattle.nest_walk.specs.declared.table.CellTable.{CellTable}
use Rattle.nest_walk.specs.declared.table.LoadCells.{LoadCells}
use Rattle.nest_walk.specs.declared.table.WorkCells.{WorkCells}
use Rattle.seq_meaning.specs.Loads.{cells_of_load}
use Rattle.seq_meaning.proofs.RunSteps.{placed-high, placed-low}
use Rattle.spmd_model.specs.Deeds.{Deed, instance_deeds}
use Rattle.instance_runs.specs.Executors.{Begins}
use Rattle.instance_runs.specs.LoadPlaces.{IsAtLoad}
use Rattle.instance_runs.specs.Loads.{IsLoading, cell_of_load, width}
use Rattle.instance_runs.specs.declared.load_place.LoadPlace.{LoadPlace}
use Rattle.instance_runs.proofs.LoadPlaces.{cells-widths, loading_cell, loading_more, loading_next}
use Rattle.instance_runs.proofs.TableLoads.{table_wide}
use Rattle.instance_runs.proofs.Wholes.{loads_are, placed}

-- a load that is looked up
pub load_read : (loads read : List LoadCells) (k : ℕ) (l : LoadCells) → read ≡ loads → k < length read → l ≡ get_or read k l → slice_get loads k ≡ Some l
load_read loads read k l all lt is = ap (λ ls. slice_get ls k) (sym all) ∙ slice_get-get_or read k l lt ∙ ap (λ x. Some x) (sym is)

pub load_past : (loads read : List LoadCells) (k : ℕ) → read ≡ loads → length read ≤ k → slice_get loads k ≡ None
load_past loads read k all past = ap (λ ls. slice_get ls k) (sym all) ∙ slice_get_past read k past

module _ (values : List ℤ) (loads : List LoadCells) (n k e : ℕ) (at : IsLoading loads n k e) where
  nothing_more : slice_get loads k ≡ None → slice_get (flat_map (cells_of_load values) loads) n ≡ None
  nothing_more none = slice_get_past (flat_map (cells_of_load values) loads) n (omega (arith, cells-widths values loads, at.over none))

  -- a cell that comes next is one of a load's
  pub loading_found : (c : ℕ) → slice_get (flat_map (cells_of_load values) loads) n ≡ Some c → (l : LoadCells) × (slice_get loads k ≡ Some l) × (c ≡ cell_of_load values l e)
  loading_found c h = by (slice_get loads k) refl
    where
      by : (o : Option LoadCells) → slice_get loads k ≡ o → (l : LoadCells) × (slice_get loads k ≡ Some l) × (c ≡ cell_of_load values l e)
      by None none = absurd (let no : None ≡ Some c = sym (nothing_more none) ∙ h in cc)
      by (Some l) there = (l, there, let same : Some c ≡ Some (cell_of_load values l e) = sym h ∙ loading_cell values loads n k e l at there in cc)

  -- and where none does, no load does
  pub loading_over : slice_get (flat_map (cells_of_load values) loads) n ≡ None → slice_get loads k ≡ None
  loading_over h = by (slice_get loads k) refl
    where
      by : (o : Option LoadCells) → slice_get loads k ≡ o → slice_get loads k ≡ None
      by None none = none
      by (Some l) there = absurd (let no : None ≡ Some (cell_of_load values l e) = sym h ∙ loading_cell values loads n k e l at there in cc)

module _ (tree : Tree) (table : CellTable) (path : Path) (stop : Stop) (done : ℕ) (place : LoadPlace) (at : IsAtLoad tree table path stop done place) where
  abbrev left : List Deed
  left = instance_deeds tree at.comes.instance ++ []

  begins : Begins tree (rounds_of path) stop left
  begins = record { at = at.comes; inside = at.inside; rest = []; is = refl }

  pub low : 1 ≤ stop.first
  low = placed-low tree path stop.first (statement_of stop.item.now) (placed tree path stop left begins) table at.table_is

  pub high : stop.first ≤ length (entries table)
  high = placed-high tree path stop.first (statement_of stop.item.now) (placed tree path stop left begins) table at.table_is

  module _ (cells : WorkCells) (there : slice_get (entries table) (stop.first - 1) ≡ Some cells) where
    these : flat_map (cells_of_load (by_depth (rounds_of path))) cells.loads.items ≡ loads_of tree at.comes.instance
    unfolding begins
    these = loads_are tree path stop left begins at.formed table at.table_is cells there

    pub cell_is : (l : LoadCells) → slice_get cells.loads.items place.load ≡ Some l → slice_get (loads_of tree at.comes.instance) done ≡ Some (cell_of_load (by_depth (rounds_of path)) l place.element)
    cell_is l here = ap (λ cs. slice_get cs done) (sym these) ∙ loading_cell (by_depth (rounds_of path)) cells.loads.items done place.load place.element l (at.loading cells there) here

    pub none_is : slice_get cells.loads.items place.load ≡ None → slice_get (loads_of tree at.comes.instance) done ≡ None
    none_is none = ap (λ cs. slice_get cs done) (sym these) ∙ nothing_more (by_depth (rounds_of path)) cells.loads.items done place.load place.element (at.loading cells there) none

    -- one value more is loaded
    module _ (l : LoadCells) (here : slice_get cells.loads.items place.load ≡ Some l) (new : LoadPlace) where
      next_place : IsLoading cells.loads.items (suc done) new.load new.element → IsAtLoad tree table path stop (suc done) new
      next_place loading = record {
        formed = at.formed;
        table_is = at.table_is;
        comes = at.comes;
        inside = at.inside;
        loading = λ other there'.
            let same : cells ≡ other = let both : Some cells ≡ Some other = sym there ∙ there' in cc in
            subst (λ (w : WorkCells). IsLoading w.loads.items (suc done) new.load new.element) same loading;
      }

      pub next_element : place.element + 1 ≢ width l → new.load ≡ place.load → new.element ≡ place.element + 1 → IsAtLoad tree table path stop (suc done) new
      next_element more load element =
          next_place (subst (λ k. IsLoading cells.loads.items (suc done) k new.element) (sym load) (subst (IsLoading cells.loads.items (suc done) place.load) (sym element)
          (loading_more cells.loads.items done place.load place.element l (at.loading cells there) here more)))

      pub next_load : place.element + 1 ≡ width l → new.load ≡ place.load + 1 → new.element ≡ 0 → IsAtLoad tree table path stop (suc done) new
      next_load full load element =
          next_place (subst (λ k. IsLoading cells.loads.items (suc done) k new.element) (sym load) (subst (IsLoading cells.loads.items (suc done) (place.load + 1)) (sym element)
          (loading_next cells.loads.items done place.load place.element l (λ j l' h'. table_wide tree table at.formed at.table_is (stop.first - 1) j cells l' there h') (at.loading cells there) here full)))
