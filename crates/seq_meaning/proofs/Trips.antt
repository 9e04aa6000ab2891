-- A trip of a loop round one assignment, whose cells come from lines.
use Rattle.std.proofs.Common.{◌≡◌, ℕ, ◌-◌, ◌<◌, ℤ, nat_lt, true, Some, List, [], ◌∷◌, length, map, set, refl, ap, sym, ◌∙◌, subst}
use Rattle.std.specs.List.{AllZip, list_all, slice_get}
use Rattle.std.proofs.lemmas.Bool.{and_parts}
use Rattle.nest_tree.specs.Layout.{cell_count}
use Rattle.nest_tree.specs.Tree.{Assignment, assign, work, Statement, Tree, param_values}
use Rattle.nest_tree.specs.View.{statement_of}
use Rattle.nest_model.specs.Instances.{Instance}
use Rattle.nest_model.specs.Memory.{assigned, cell_value}
use Rattle.nest_model.specs.Ranges.{is_instance_inside}
use Rattle.nest_model.specs.Visits.{executed_at}
use Rattle.nest_walk.specs.Cursors.{loops_in}
use Rattle.nest_walk.specs.Paths.{Round, by_depth}
use Rattle.nest_walk.specs.Places.{numbers_of}
use Rattle.nest_walk.specs.RoundsOf.{rounds_of}
use Rattle.nest_walk.specs.Strips.{at_value, strip_left, strip_rounds, strip_tree}
use Rattle.nest_walk.specs.Tables.{IsCellTable, entries}
use Rattle.nest_walk.specs.Texts.{StandFrom, works}
use Rattle.nest_walk.specs.declared.cells.CellForm.{CellForm}
use Rattle.nest_walk.specs.declared.cursor.Stop.{Stop}
use Rattle.nest_walk.specs.declared.path.Path.{Path}
use Rattle.nest_walk.specs.declared.strip.Strip.{Strip}
use Rattle.nest_walk.specs.declared.table.CellTable.{CellTable}
use Rattle.nest_walk.specs.declared.table.WorkCells.{WorkCells}
use Rattle.flat_code.specs.Lines.{IsLineOf, IsLoadLine, cell_on}
use Rattle.flat_code.specs.declared.lines.Line.{Line}
use Rattle.seq_meaning.specs.Executions.{IsPlacedWork, loaded_at, memory_behind}
use Rattle.seq_meaning.proofs.Registers.{lines_load, lines_within}
use Rattle.seq_meaning.proofs.RunInstances.{placed_work}
use Rattle.seq_meaning.proofs.TextAssigns.{plain_text}
use Rattle.seq_meaning.proofs.RunSteps.{firsts_are, firsts_within, placed-firsts, placed-found, store_is, store_within}

-- the assignment of a strip stands in the text
pub strip_text : (tree : Tree) (strip : Strip) (stop : Stop) (a : Assignment) → strip_tree strip ≡ tree → stop ≡ strip.stop → statement_of strip.stop.item.now ≡ work (assign a) →
    StandFrom (works tree) stop.first (record { what = work (assign a); around = numbers_of (strip_rounds strip) } ∷ [])
strip_text tree strip stop a walked same is =
    let around = numbers_of (strip_rounds strip) in
    let here = plain_text (strip_tree strip) around strip.stop.first (statement_of strip.stop.item.now) a is strip.text in
    let there = subst (λ t. StandFrom (works t) strip.stop.first (record { what = work (assign a); around = around } ∷ [])) walked here in
    subst (λ (s : Stop). StandFrom (works tree) s.first (record { what = work (assign a); around = around } ∷ [])) (sym same) there

-- a trip of it is inside
pub trip_placed : (tree : Tree) (strip : Strip) (stop : Stop) (i : Instance) (left : List Instance) → strip_tree strip ≡ tree → stop ≡ strip.stop →
    executed_at (param_values (strip_tree strip)) strip.stop.first (statement_of strip.stop.item.now) (loops_in (strip_tree strip) (strip_rounds strip)) ≡ i ∷ [] → left ≡ i ∷ strip_left strip → list_all (is_instance_inside tree) left ≡ true →
    IsPlacedWork tree (rounds_of strip.path) stop.first (statement_of stop.item.now)
trip_placed tree strip stop i left walked same executed next inside =
    let insides = and_parts (is_instance_inside tree i) (list_all (is_instance_inside tree) (strip_left strip)) (sym (ap (list_all (is_instance_inside tree)) next) ∙ inside) in
    let here = placed_work (strip_tree strip) (strip_rounds strip) strip.stop i executed strip.reached strip.text (ap (λ t. is_instance_inside t i) walked ∙ insides.0) in
    let there = subst (λ t. IsPlacedWork t (strip_rounds strip) strip.stop.first (statement_of strip.stop.item.now)) walked here in
    subst (λ (s : Stop). IsPlacedWork tree (rounds_of strip.path) s.first (statement_of s.item.now)) (sym same) there

module _ (tree : Tree) (path : Path) (number : ℕ) (s : Statement) (placed : IsPlacedWork tree (rounds_of path) number s) (rounds : List Round) (v : ℤ) (here : at_value rounds v ≡ rounds_of path)
    (table : CellTable) (cells : WorkCells) (is : IsCellTable tree table) (at : slice_get (entries table) (number - 1) ≡ Some cells) (memory : List ℤ) (long : length memory ≡ cell_count tree) where
  -- its loads
  pub trip_within : (a : Assignment) → placed.what ≡ assign a → (lines : List Line) → AllZip (λ l m. IsLoadLine l rounds m) cells.loads.items lines → list_all (λ m. nat_lt (cell_on m v) (length memory)) lines ≡ true
  trip_within a what lines laid =
      lines_within rounds v cells.loads.items lines (length memory) laid
      ∙ firsts_within tree path number s placed a cells.loads.items (placed-firsts tree path number s placed a what table cells is at) memory memory (by_depth (at_value rounds v)) cells.loads.items long refl (ap by_depth here) refl

  pub trip_loaded : (a : Assignment) → placed.what ≡ assign a → (lines : List Line) → AllZip (λ l m. IsLoadLine l rounds m) cells.loads.items lines →
      map (λ m. cell_value memory (cell_on m v)) lines ≡ loaded_at tree (loops_in tree (rounds_of path)) (assign a) memory
  trip_loaded a what lines laid =
      lines_load rounds v cells.loads.items lines memory laid
      ∙ firsts_are tree path number s placed a cells.loads.items (placed-firsts tree path number s placed a what table cells is at) memory memory (by_depth (at_value rounds v)) cells.loads.items refl (ap by_depth here) refl

  -- its store
  pub trip_store_within : (form : CellForm) (line : Line) → cells.store ≡ Some form → IsLineOf form rounds line → cell_on line v < length memory
  trip_store_within form line stored lined =
      store_within tree path number s placed cells (placed-found tree path number s placed table cells is at) form (by_depth (at_value rounds v)) memory (cell_on line v) stored (sym (lined v)) (ap by_depth here) long

  pub trip_store : (form : CellForm) (line : Line) (value : ℤ) → cells.store ≡ Some form → IsLineOf form rounds line →
      value ≡ assigned tree (loops_in tree (rounds_of path)) placed.what (loaded_at tree (loops_in tree (rounds_of path)) placed.what memory) → set memory (cell_on line v) value ≡ memory_behind tree (loops_in tree (rounds_of path)) placed.what memory
  trip_store form line value stored lined is_value =
      store_is tree path number s placed cells (placed-found tree path number s placed table cells is at) form (by_depth (at_value rounds v)) memory (cell_on line v) value stored (sym (lined v)) (ap by_depth here) is_value
