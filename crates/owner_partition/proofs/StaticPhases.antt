-- What the search for a place of the text finds is the static phase there, with the Outer loops round it.
use Rattle.std.proofs.Common.{◌≡◌, ℕ, ◌+◌, ◌-◌, ◌<◌, ◌≤◌, ◌==◌, Bool, true, false, ◌||◌, List, [], ◌∷◌, ◌++◌, drop, get_or, length, map, reverse, take, Option, Some, MatchOption, None, if◌then◌else◌, refl, ap, sym, ◌∙◌, arith}
use Rattle.std.specs.Prelude.{replicate, slice_get}
use Rattle.std.specs.List.{list_any}
use Rattle.std.proofs.Math.Bool.{or_comm}
use Rattle.std.proofs.Math.Seq.{take-append-add}
use Rattle.std.proofs.lemmas.List.{drop-replicate, map-append, reverse-append, take-replicate}
use Rattle.std.proofs.lemmas.List.Folds.{list_any-append}
use Rattle.nest_tree.specs.declared.tree.Item.{Item}
use Rattle.nest_tree.specs.declared.tree.Item.TheVariants.{Loop}
use Rattle.nest_tree.specs.declared.tree.Nest.{Nest}
use Rattle.nest_tree.specs.Tree.{Head}
use Rattle.nest_tree.specs.View.{head_of, loop_of, statement_of, statements_from}
use Rattle.nest_tree.proofs.Rows.{statement_of-Loop, statements_more}
use Rattle.nest_model.specs.Visits.{stops_in}
use Rattle.nest_walk.specs.Texts.{Placed, placed_in, placed_of}
use Rattle.nest_rows.specs.Views.{heads_of}
use Rattle.nest_rows.specs.declared.terms.Around.{Around}
use Rattle.owner_partition.specs.declared.static_phase.StaticPhase.{StaticPhase}
use Rattle.owner_partition.specs.StaticPhases.{loops_round, numbers_round}
use Rattle.owner_partition.proofs.Sites.{get-behind, get-front, placed_count}

-- the first place of some that are alike, behind others
pub with_last : {X : Type 0} (xs all : List X) (n : ℕ) (x : X) → length xs < n → all ≡ xs ++ drop (length xs) (replicate n x) → take (length xs + 1) all ≡ xs ++ x ∷ []
with_last xs all n x lt is =
    ap (take (length xs + 1)) is ∙ take-append-add xs (drop (length xs) (replicate n x)) 1
    ∙ ap (λ ys. xs ++ take 1 ys) (drop-replicate (length xs) n x) ∙ ap (λ ys. xs ++ ys) (take-replicate 1 (n - length xs) x (omega (arith, lt)))

-- one more loop inside has the first of their numbers
pub numbers_more : (around : List Around) (a : Around) → numbers_round (around ++ a ∷ []) ≡ a.nest.now.number ∷ numbers_round around
numbers_more around a =
    let number = λ (h : Head). h.number in
    ap (λ hs. reverse (map number hs)) (map-append (λ (b : Around). head_of b.nest.now) around (a ∷ []))
    ∙ ap reverse (map-append number (heads_of around) (head_of a.nest.now ∷ []))
    ∙ reverse-append (map number (heads_of around)) (a.nest.now.number ∷ [])

-- a loop with this number stands among them, in either order
pub is_among : (around : List Around) (n : ℕ) → list_any (λ (a : Around). a.nest.now.number == n) around ≡ list_any (λ l. l == n) (numbers_round around)
is_among [] n = refl
is_among (a ∷ around) n =
    let named = λ (l : ℕ). l == n in
    let later = numbers_round around in
    or_comm (named a.nest.now.number) (list_any (λ (b : Around). b.nest.now.number == n) around)
    ∙ ap (λ b. b || named a.nest.now.number) (is_among around n)
    ∙ ap (λ b. list_any named later || b) (or_comm false (named a.nest.now.number))
    ∙ sym (list_any-append named later (a.nest.now.number ∷ []))
    ∙ sym (ap (list_any named) (reverse-append (a.nest.now.number ∷ []) (map (λ (h : Head). h.number) (heads_of around))))

-- the phase at a place of a text is found, and none exactly where there is no such place
abbrev pub IsFound : List Placed → ℕ → Option StaticPhase → Type 0
IsFound text k found = MatchOption found (slice_get text k ≡ None) (λ s. slice_get text k ≡ Some (record { what = statement_of s.item.now; around = loops_round s }))

module _ (enters : ℕ → Bool) (around : List ℕ) (items : List Item) (i : ℕ) (item : Item) (lt : i < length items) (is : item ≡ get_or items i item) where
  all_of : placed_of enters around (statements_from (drop i items)) ≡ placed_in enters around (statement_of item) ++ placed_of enters around (statements_from (drop (i + 1) items))
  all_of = ap (placed_of enters around) (statements_more items i item lt is)

  -- a place among those of a statement
  pub place_here : (k : ℕ) → k < stops_in enters (statement_of item) → slice_get (placed_in enters around (statement_of item)) k ≡ slice_get (placed_of enters around (statements_from (drop i items))) k
  place_here k less =
      let rest = placed_of enters around (statements_from (drop (i + 1) items)) in
      sym (ap (λ text. slice_get text k) all_of ∙ get-front (placed_in enters around (statement_of item)) rest k (omega (arith, less, placed_count enters around (statement_of item))))

  -- a place behind them
  pub place_later : (k : ℕ) → stops_in enters (statement_of item) ≤ k → slice_get (placed_of enters around (statements_from (drop (i + 1) items))) (k - stops_in enters (statement_of item)) ≡ slice_get (placed_of enters around (statements_from (drop i items))) k
  place_later k past =
      let front = placed_in enters around (statement_of item) in
      let rest = placed_of enters around (statements_from (drop (i + 1) items)) in
      let many = placed_count enters around (statement_of item) in
      let more : length front + (k - stops_in enters (statement_of item)) ≡ k = omega (arith, past, many) in
      sym (ap (λ text. slice_get text k) all_of ∙ sym (ap (slice_get (front ++ rest)) more) ∙ get-behind front rest (k - stops_in enters (statement_of item)))

-- the stops inside a loop that a walk enters
pub placed_inside : (enters : ℕ → Bool) (around inside : List ℕ) (item : Item) (nest : Nest) (items : List Item) → item ≡ Loop nest → items ≡ nest.items.items → enters nest.number ≡ true → inside ≡ nest.number ∷ around →
    placed_of enters inside (statements_from items) ≡ placed_in enters around (statement_of item)
placed_inside enters around inside item nest items is items_are enter inside_is =
    sym (ap (placed_in enters around) (ap statement_of is ∙ statement_of-Loop nest)
    ∙ ap (λ b. if b then placed_of enters (nest.number ∷ around) (statements_from nest.items.items) else record { what = loop_of nest; around = around } ∷ []) enter
    ∙ ap (λ ns. placed_of enters ns (statements_from nest.items.items)) (sym inside_is)
    ∙ ap (λ xs. placed_of enters inside (statements_from xs)) (sym items_are))

-- a loop at which it stops
pub placed_closed : (enters : ℕ → Bool) (around : List ℕ) (item : Item) (nest : Nest) → item ≡ Loop nest → enters nest.number ≡ false → placed_in enters around (statement_of item) ≡ record { what = statement_of item; around = around } ∷ []
placed_closed enters around item nest is closed =
    let text = ap statement_of is ∙ statement_of-Loop nest in
    ap (placed_in enters around) text
    ∙ ap (λ b. if b then placed_of enters (nest.number ∷ around) (statements_from nest.items.items) else record { what = loop_of nest; around = around } ∷ []) closed
    ∙ ap (λ s. record { what = s; around = around } ∷ []) (sym text)
