-- Codes in a list and in a row.
use Rattle.std.proofs.Common.{◌≡◌, ℕ, ◌+◌, ◌<◌, Bool, List, [], ◌∷◌, ◌++◌, Vec, Global, length, drop, get_or, true, if◌then◌else◌, refl, ap, sym, ◌∙◌, arith}
use Rattle.std.specs.Borrow.{Bor}
use Rattle.std.proofs.lemmas.List.{drop_more}
use Rattle.nest_tree.specs.Tree.{Tree}
use Rattle.nest_tree.specs.WellFormed.{IsWellFormed}
use Rattle.nest_tree.proofs.Rows.{statement_of-Loop}
use Rattle.nest_tree.specs.View.{head_of, loop_of, statement_of, statements_from}
use Rattle.nest_tree.specs.declared.tree.Item.{Item, Loop}
use Rattle.nest_tree.specs.declared.tree.Nest.{Nest}
use Rattle.nest_model.specs.Visits.{stops_in, stops_of}
use Rattle.owner_partition.specs.Marks.{enters_outer}
use Rattle.owner_partition.proofs.Places.{few_phases as below_400}
use Rattle.sync_plan.specs.declared.plan.Plan.{Plan}
use Rattle.thread_code.specs.Code.{Node, Nodes, Table, code_in, codes_in, each, end, one_then, phase_at}
use Rattle.thread_code.specs.View.{code_view, codes_view, row_view}
use Rattle.thread_code.specs.declared.code.Code.{Code, Each, Each', Row_of-Code, end_of-Code, more_of-Code, items-the_row-Code, items_hidden-the_row-Code-0}
use mathlib.Core.Former.{Count}

codes_view-row : (n : _) (row : Row_of-Code n) → codes_view (items-the_row-Code n row) ≡ row_view row
codes_view-row n end_of-Code = refl
codes_view-row n (more_of-Code c rest) = ap (one_then (code_view c)) (codes_view-row _ rest)

abbrev row_of : Code → (n : Count) × Row_of-Code n
row_of (Each' nest shape row) = (_, row)
row_of _ = (_, end_of-Code)

-- an Outer loop with its codes in a list
pub code_view-Each : (nest : Bor Nest) (codes : Vec Code Global) → code_view (Each nest codes) ≡ each (head_of nest.now) (codes_view codes.items)
code_view-Each nest codes =
    let row = row_of (Each nest codes) in
    ap (each (head_of nest.now)) (sym (codes_view-row row.0 row.1) ∙ ap codes_view (items_hidden-the_row-Code-0 codes))

-- codes one behind another
abbrev pub joined : Nodes → Nodes → Nodes
joined end ys = ys
joined (one_then x xs) ys = one_then x (joined xs ys)

pub joined-end : (xs : Nodes) → joined xs end ≡ xs
joined-end end = refl
joined-end (one_then x xs) = ap (one_then x) (joined-end xs)

joined-more : (xs : Nodes) (x : Node) (ys : Nodes) → joined (joined xs (one_then x end)) ys ≡ joined xs (one_then x ys)
joined-more end x ys = refl
joined-more (one_then z xs) x ys = ap (one_then z) (joined-more xs x ys)

codes_view-push : (cs : List Code) (c : Code) → codes_view (cs ++ c ∷ []) ≡ joined (codes_view cs) (one_then (code_view c) end)
codes_view-push [] c = refl
codes_view-push (d ∷ cs) c = ap (one_then (code_view d)) (codes_view-push cs c)

module _ (table : Table) (plan : Plan) where
  abbrev enters : ℕ → Bool
  enters = enters_outer plan.cut.marks

  pub stops-more : (items : List Item) (i : ℕ) (item : Item) → i < length items → item ≡ get_or items i item →
      stops_of enters (statements_from (drop i items)) ≡ stops_in enters (statement_of item) + stops_of enters (statements_from (drop (i + 1) items))
  stops-more items i item lt is =
      ap (λ xs. stops_of enters (statements_from xs)) (drop_more items i item lt) ∙ ap (λ x. stops_in enters (statement_of x) + stops_of enters (statements_from (drop (i + 1) items))) (sym is)

  codes-more : (items : List Item) (i place : ℕ) (item : Item) → i < length items → item ≡ get_or items i item →
      codes_in table plan (statements_from (drop i items)) place ≡ one_then (code_in table plan (statement_of item) place) (codes_in table plan (statements_from (drop (i + 1) items)) (place + stops_in enters (statement_of item)))
  codes-more items i place item lt is =
      ap (λ xs. codes_in table plan (statements_from xs) place) (drop_more items i item lt)
      ∙ ap (λ x. one_then (code_in table plan (statement_of x) place) (codes_in table plan (statements_from (drop (i + 1) items)) (place + stops_in enters (statement_of x)))) (sym is)

  -- so far the codes, and behind them those of the statements that are left, are those of all; the places too
  pub record IsMade (items : List Item) (first : ℕ) (made : List Code) (i place : ℕ) : Type 0 where
    pub codes : joined (codes_view made) (codes_in table plan (statements_from (drop i items)) place) ≡ codes_in table plan (statements_from items) first
    pub places : place + stops_of enters (statements_from (drop i items)) ≡ first + stops_of enters (statements_from items)

  pub one_made : (items : List Item) (first : ℕ) (made : List Code) (i place behind : ℕ) (item : Item) (c : Code) → i < length items → item ≡ get_or items i item →
      code_view c ≡ code_in table plan (statement_of item) place → behind ≡ place + stops_in enters (statement_of item) → IsMade items first made i place → IsMade items first (made ++ c ∷ []) (i + 1) behind
  one_made items first made i place behind item c lt is same stop so_far =
      let later = codes_in table plan (statements_from (drop (i + 1) items)) in record {
        codes = ap (λ n. joined (codes_view (made ++ c ∷ [])) (later n)) stop
            ∙ ap (λ xs. joined xs (later (place + stops_in enters (statement_of item)))) (codes_view-push made c)
            ∙ joined-more (codes_view made) (code_view c) (later (place + stops_in enters (statement_of item)))
            ∙ ap (λ x. joined (codes_view made) (one_then x (later (place + stops_in enters (statement_of item))))) same
            ∙ sym (ap (joined (codes_view made)) (codes-more items i place item lt is))
            ∙ so_far.codes;
        places = omega (arith, stop, stops-more items i item lt is, so_far.places);
      }

  -- an Outer loop
  pub loop_code : (item : Item) (nest : Nest) (place : ℕ) → item ≡ Loop nest → enters nest.number ≡ true → code_in table plan (statement_of item) place ≡ each (head_of nest) (codes_in table plan (statements_from nest.items.items) place)
  loop_code item nest place is entered =
      ap (λ s. code_in table plan s place) (ap statement_of is ∙ statement_of-Loop nest)
      ∙ ap (λ (b : Bool). if b then each (head_of nest) (codes_in table plan (statements_from nest.items.items) place) else phase_at table plan (loop_of nest) place) entered

  pub loop_stops : (item : Item) (nest : Nest) → item ≡ Loop nest → enters nest.number ≡ true → stops_in enters (statement_of item) ≡ stops_of enters (statements_from nest.items.items)
  loop_stops item nest is entered =
      ap (stops_in enters) (ap statement_of is ∙ statement_of-Loop nest) ∙ ap (λ (b : Bool). if b then stops_of enters (statements_from nest.items.items) else 1) entered

-- a well-formed program has few phases
pub few_phases : (tree : Tree) (enters : ℕ → Bool) → IsWellFormed tree → 1 + stops_of enters tree.items < 4294967296
few_phases tree enters formed = let few = below_400 tree enters formed in omega (arith, few)
