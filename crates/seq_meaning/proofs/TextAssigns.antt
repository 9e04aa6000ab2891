-- An assignment of the text, by its number: what tables have for it.
use Rattle.std.proofs.Common.{◌≡◌, ℕ, ◌-◌, ◌≤◌, true, Some, List, [], ◌∷◌, length, map, refl, sym, ◌∙◌, subst}
use Rattle.std.specs.List.{AllZip, slice_get}
use Rattle.std.specs.Option.{option_to_list}
use Rattle.std.proofs.Math.Logic.{∥∥₁_elim}
use Rattle.std.proofs.Props.{props}
use Rattle.std.proofs.lemmas.List.{length-map}
use Rattle.std.proofs.lemmas.Slice.Zip.{AllZip-long}
use Rattle.nest_tree.specs.Loads.{loads_in}
use Rattle.nest_tree.specs.Tree.{Assignment, assign, print, do_loop, continue, work, Statement, Tree}
use Rattle.nest_tree.specs.declared.tree.Access.{Access}
use Rattle.nest_model.specs.Visits.{every}
use Rattle.nest_walk.specs.CellForms.{IsCellForm}
use Rattle.nest_walk.specs.OnlyAssignments.{is_plain}
use Rattle.nest_walk.specs.Tables.{AreLoadCells, ArePlacedCells, IsCellTable, element, entries}
use Rattle.nest_walk.specs.Texts.{Placed, StandFrom, placed_in, works}
use Rattle.nest_walk.specs.declared.cells.CellForm.{CellForm}
use Rattle.nest_walk.specs.declared.table.CellTable.{CellTable}
use Rattle.nest_walk.specs.declared.table.WorkCells.{WorkCells}
use Rattle.nest_walk.proofs.PlacedWorks.{standing-number, standing-zip}
use Rattle.flat_code.specs.Codes.{IsCodeOf}
use Rattle.flat_code.specs.CodeTables.{HasCode, IsCodeTable, codes_of}
use Rattle.flat_code.specs.declared.code.Code.{Code}
use Rattle.flat_code.specs.declared.table.CodeTable.{CodeTable}

-- a statement without a comparison is an assignment
pub plain_assign : (s : Statement) → is_plain s ≡ true → (a : Assignment) × (s ≡ work (assign a))
plain_assign (do_loop head body) h = cc
plain_assign (work (assign a)) h = (a, refl)
plain_assign (work (print p)) h = cc
plain_assign (continue line) h = cc

pub plain_text : (tree : Tree) (around : List ℕ) (number : ℕ) (s : Statement) (a : Assignment) → s ≡ work (assign a) → StandFrom (works tree) number (placed_in every around s) →
    StandFrom (works tree) number (record { what = work (assign a); around = around } ∷ [])
plain_text tree around number s a is text = subst (λ x. StandFrom (works tree) number (placed_in every around x)) is text

-- it has a store, and as many loads as its value
has_store : (tree : Tree) (around : List ℕ) (a : Access) (stores : List CellForm) → AllZip (λ (x : Access) (f : CellForm). IsCellForm tree x around f) (a ∷ []) stores → stores ≡ [] → ⊥
has_store tree around a [] are none = are
has_store tree around a (f ∷ stores) are none = cc

module _ (tree : Tree) (around : List ℕ) (number : ℕ) (a : Assignment) (text : StandFrom (works tree) number (record { what = work (assign a); around = around } ∷ [])) where
  pub text-low : {B : Type 0} (R : Placed → B → Type 0) (ys : List B) → AllZip R (works tree) ys → 1 ≤ number
  text-low R ys zipped = ∥∥₁_elim text (hlevel props) (λ h. (standing-number R (works tree) number _ ys h zipped).0)

  pub text-high : {B : Type 0} (R : Placed → B → Type 0) (ys : List B) → AllZip R (works tree) ys → number ≤ length ys
  text-high R ys zipped = ∥∥₁_elim text (hlevel props) (λ h. (standing-number R (works tree) number _ ys h zipped).1)

  pub text-code : (codes : CodeTable) (code : Code) → IsCodeTable tree codes → slice_get (codes_of codes) (number - 1) ≡ Some code → IsCodeOf a.value code
  text-code codes code are at = ∥∥₁_elim text (hlevel props) (λ h. standing-zip HasCode (works tree) number _ (codes_of codes) code h are.each at)

  pub text-store : (table : CellTable) (cells : WorkCells) → IsCellTable tree table → slice_get (entries table) (number - 1) ≡ Some cells → option_to_list cells.store ≡ [] → ⊥
  text-store table cells are at none =
      ∥∥₁_elim text (hlevel props) (λ h. has_store tree around a.target (option_to_list cells.store) (standing-zip (ArePlacedCells tree) (works tree) number _ (entries table) cells h are at).stored none)

  pub text-loads : (table : CellTable) (cells : WorkCells) → IsCellTable tree table → slice_get (entries table) (number - 1) ≡ Some cells → length (loads_in a.value) ≡ length cells.loads.items
  text-loads table cells are at =
      ∥∥₁_elim text (hlevel props)
      (λ h. sym (length-map (loads_in a.value) element) ∙ sym (AllZip-long (AreLoadCells tree around) (map element (loads_in a.value)) cells.loads.items (standing-zip (ArePlacedCells tree) (works tree) number _ (entries table) cells h are at).loaded))
