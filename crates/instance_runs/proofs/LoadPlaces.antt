-- The load that comes next among those of a piece of work.
use Rattle.std.proofs.Common.{◌≡◌, ◌≢◌, ℕ, zero, suc, ◌+◌, ◌<◌, ℤ, true, List, [], ◌∷◌, ◌++◌, length, drop, take, Some, None, refl, sym, ◌∙◌, ap, subst, arith, zero-add, length-append}
use Rattle.std.specs.Prelude.{slice_get}
use Rattle.std.specs.List.{flat_map, list_all, range_with_len}
use Rattle.std.proofs.lemmas.Bool.{leb-true, ltb-true}
use Rattle.std.proofs.lemmas.List.FromFn.{get_or-range_with_len, length-range_with_len}
use Rattle.std.proofs.lemmas.List.Sums.{sum_by-cons}
use Rattle.std.proofs.lemmas.Option.{slice_get-get_or, slice_get_within}
use Rattle.list_lemmas.proofs.Gets.{get-front, get-behind}
use Rattle.nest_walk.specs.CellForms.{cell_at}
use Rattle.nest_walk.specs.declared.table.LoadCells.{LoadCells}
use Rattle.nest_walk.specs.declared.table.LoadCells.TheVariants.{Element, Array}
use Rattle.owner_partition.proofs.Sites.{all_at, all_of}
use Rattle.seq_meaning.specs.Loads.{cells_of_load, is_load_within}
use Rattle.instance_runs.specs.Loads.{IsLoading, cell_of_load, width, widths}

pub drop_there : {X : Type 0} (xs : List X) (n : ℕ) (x : X) → slice_get xs n ≡ Some x → drop n xs ≡ x ∷ drop (suc n) xs
drop_there [] n x h = absurd (let no : None ≡ Some x = h in cc)
drop_there (y ∷ ys) zero x h = let same : y ≡ x = cc in ap (λ z. z ∷ ys) same
drop_there (y ∷ ys) (suc n) x h = drop_there ys n x h

module _ (values : List ℤ) where
  cells-width : (l : LoadCells) → length (cells_of_load values l) ≡ width l
  cells-width (Element form) = refl
  cells-width (Array first count) = length-range_with_len first count

  pub cells-widths : (loads : List LoadCells) → length (flat_map (cells_of_load values) loads) ≡ widths loads
  cells-widths [] = refl
  cells-widths (l ∷ loads) =
      length-append (cells_of_load values l) (flat_map (cells_of_load values) loads) ∙ ap (λ n. n + length (flat_map (cells_of_load values) loads)) (cells-width l)
      ∙ ap (λ n. width l + n) (cells-widths loads) ∙ sym (sum_by-cons width l loads)

  -- one of the cells of a load
  cell_there : (l : LoadCells) (e : ℕ) → e < width l → slice_get (cells_of_load values l) e ≡ Some (cell_of_load values l e)
  cell_there (Element form) zero lt = refl
  cell_there (Element form) (suc e) lt = absurd (omega arith)
  cell_there (Array first count) e lt =
      slice_get-get_or (range_with_len first count) e 0 (omega (arith, length-range_with_len first count)) ∙ ap (λ n. Some n) (get_or-range_with_len first count e 0 lt)

  cell_within : (cells : ℕ) (l : LoadCells) (e : ℕ) → e < width l → is_load_within cells values l ≡ true → cell_of_load values l e < cells
  cell_within cells (Element form) e lt h = ltb-true (cell_at form values) cells h
  cell_within cells (Array first count) e lt h = omega (arith, lt, leb-true (first + count) cells h)

  -- among the cells of all loads
  cell_among : (loads : List LoadCells) (k e : ℕ) (l : LoadCells) → slice_get loads k ≡ Some l → e < width l → slice_get (flat_map (cells_of_load values) loads) (widths (take k loads) + e) ≡ Some (cell_of_load values l e)
  cell_among [] k e l h lt = absurd (let no : None ≡ Some l = h in cc)
  cell_among (f ∷ loads) zero e l h lt =
      let same : f ≡ l = cc in
      let inside : e < length (cells_of_load values f) = omega (arith, cells-width f, lt, ap width same) in
      let first : widths (take zero (f ∷ loads)) + e ≡ e = zero-add e in
      ap (slice_get (cells_of_load values f ++ flat_map (cells_of_load values) loads)) first ∙ get-front (cells_of_load values f) (flat_map (cells_of_load values) loads) e inside
      ∙ ap (λ z. slice_get (cells_of_load values z) e) same ∙ cell_there l e lt
  cell_among (f ∷ loads) (suc k) e l h lt =
      let more : widths (take (suc k) (f ∷ loads)) + e ≡ length (cells_of_load values f) + (widths (take k loads) + e) = omega (arith, sum_by-cons width f (take k loads), cells-width f) in
      ap (slice_get (cells_of_load values f ++ flat_map (cells_of_load values) loads)) more ∙ get-behind (cells_of_load values f) (flat_map (cells_of_load values) loads) (widths (take k loads) + e) ∙ cell_among loads k e l h lt

  pub loading_cell : (loads : List LoadCells) (n k e : ℕ) (l : LoadCells) → IsLoading loads n k e → slice_get loads k ≡ Some l → slice_get (flat_map (cells_of_load values) loads) n ≡ Some (cell_of_load values l e)
  loading_cell loads n k e l at h = ap (slice_get (flat_map (cells_of_load values) loads)) (sym at.counted) ∙ cell_among loads k e l h (at.within l h)

  pub loading_within : (cells : ℕ) (loads : List LoadCells) (n k e : ℕ) (l : LoadCells) → IsLoading loads n k e → slice_get loads k ≡ Some l → list_all (is_load_within cells values) loads ≡ true → cell_of_load values l e < cells
  loading_within cells loads n k e l at h all = cell_within cells l e (at.within l h) (all_at (λ x. is_load_within cells values x ≡ true) loads k l (all_of (λ x. is_load_within cells values x ≡ true) (is_load_within cells values) loads all (λ x passes. passes)) h)

  pub loading_below : (loads : List LoadCells) (n k e : ℕ) (l : LoadCells) → IsLoading loads n k e → slice_get loads k ≡ Some l → n < widths loads
  loading_below loads n k e l at h =
      let inside = slice_get_within (flat_map (cells_of_load values) loads) n (cell_of_load values l e) (loading_cell loads n k e l at h) in
      omega (arith, inside, cells-widths loads)

-- ---- one value more

widths-more : (loads : List LoadCells) (k : ℕ) (l : LoadCells) → slice_get loads k ≡ Some l → widths (take (suc k) loads) ≡ widths (take k loads) + width l
widths-more [] k l h = absurd (let no : None ≡ Some l = h in cc)
widths-more (f ∷ loads) zero l h = let same : f ≡ l = cc in sum_by-cons width f [] ∙ omega (arith, ap width same)
widths-more (f ∷ loads) (suc k) l h = omega (arith, sum_by-cons width f (take (suc k) loads), sum_by-cons width f (take k loads), widths-more loads k l h)

widths-all : (loads : List LoadCells) (k : ℕ) (l : LoadCells) → slice_get loads k ≡ Some l → slice_get loads (suc k) ≡ None → widths loads ≡ widths (take k loads) + width l
widths-all [] k l h none = absurd (let no : None ≡ Some l = h in cc)
widths-all (f ∷ []) zero l h none = widths-more (f ∷ []) zero l h
widths-all (f ∷ g ∷ loads) zero l h none = absurd (let no : Some g ≡ None = none in cc)
widths-all (f ∷ loads) (suc k) l h none = omega (arith, sum_by-cons width f loads, sum_by-cons width f (take k loads), widths-all loads k l h none)

pub loading_more : (loads : List LoadCells) (n k e : ℕ) (l : LoadCells) → IsLoading loads n k e → slice_get loads k ≡ Some l → e + 1 ≢ width l → IsLoading loads (suc n) k (e + 1)
loading_more loads n k e l at h more = record {
  counted = omega (arith, at.counted);
  within = λ l' h'. let same : l ≡ l' = let both : Some l ≡ Some l' = sym h ∙ h' in cc in omega (arith, at.within l h, more, ap width same);
  over = λ none. absurd (let no : Some l ≡ None = sym h ∙ none in cc);
}

pub loading_next : (loads : List LoadCells) (n k e : ℕ) (l : LoadCells) → ((j : ℕ) (l' : LoadCells) → slice_get loads j ≡ Some l' → 0 < width l') → IsLoading loads n k e → slice_get loads k ≡ Some l → e + 1 ≡ width l → IsLoading loads (suc n) (k + 1) 0
loading_next loads n k e l wide at h full =
    let one : suc k ≡ k + 1 = omega arith in
    subst (λ j. IsLoading loads (suc n) j 0) one (record {
      counted = omega (arith, widths-more loads k l h, at.counted, full);
      within = λ l' h'. wide (suc k) l' h';
      over = λ none. omega (arith, widths-all loads k l h none, at.counted, full);
    })
