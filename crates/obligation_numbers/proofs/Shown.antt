-- What the certain boundaries of a slot show of a plan's kinds, counted.
use Rattle.std.proofs.Common.{◌≡◌, ℕ, suc, ◌+◌, ◌-◌, ◌<◌, min, Bool, true, false, ◌||◌, nat_lt, List, [], ◌∷◌, length, drop, Option, Some, None, if◌then◌else◌, refl, ap, sym, ◌∙◌, arith}
use Rattle.std.specs.Prelude.{sum_by}
use Rattle.std.specs.List.{flat_map, list_any}
use Rattle.std.specs.Option.{is_some, option_map, option_to_list}
use Rattle.std.proofs.lemmas.Bool.{lt-ltb}
use Rattle.std.proofs.lemmas.List.{length-drop}
use Rattle.std.proofs.lemmas.List.Concat.{length-flat_map}
use Rattle.std.proofs.lemmas.List.Sums.{sum_by-append, sum_by-cons}
use Rattle.nest_tree.specs.Tree.{Head}
use Rattle.owner_partition.specs.declared.anchor.Anchor.{Anchor}
use Rattle.sync_plan.specs.declared.plan.Kind.{Kind}
use Rattle.sync_plan.specs.declared.plan.Version.{Version}
use Rattle.sync_plan.specs.Kinds.{anchor_in}
use Rattle.comm_system.specs.Boundaries.{Boundary, Side, boundaries_where, certain_boundaries, is_before_second, is_behind_first, of_first, of_second}
use Rattle.comm_system.specs.Obligations.{Slot, slot_signature}
use Rattle.comm_system.specs.OwnerRows.{pieces}
use Rattle.comm_system.specs.References.{StaticPhase}
use Rattle.comm_system.specs.Signatures.{blocked, counted, is_barrier, kind_at, last_three, left_waits, producers_at, right_waits, waits}
use Rattle.obligation_numbers.specs.Sums.{sum_from}
use Rattle.obligation_numbers.specs.Counts.{certain_count, is_producer, piece_count, sides_where}
use Rattle.obligation_numbers.proofs.Counted.{sum_same}

terms_same : (f g : ℕ → StaticPhase → ℕ) → ((n : ℕ) (p : StaticPhase) → f n p ≡ g n p) → (n : ℕ) (ps : List StaticPhase) → sum_from f n ps ≡ sum_from g n ps
terms_same f g each n [] = refl
terms_same f g each n (p ∷ ps) = let here = each n p in let later = terms_same f g each (suc n) ps in omega (arith, here, later)

terms_added : (f g : ℕ → StaticPhase → ℕ) (n : ℕ) (ps : List StaticPhase) → sum_from f n ps + sum_from g n ps ≡ sum_from (λ k p. f k p + g k p) n ps
terms_added f g n [] = refl
terms_added f g n (p ∷ ps) = let later = terms_added f g (suc n) ps in omega (arith, later)

-- boundaries that stand at some phases, as a sum over all
boundaries_summed : (h : Boundary → ℕ) (test : ℕ → List Head → Bool) (side : Side) (n : ℕ) (ps : List StaticPhase) →
    sum_by h (boundaries_where test side n ps) ≡ sum_from (λ k p. if test k p.outer then h (record { phase = k; side = side }) else 0) n ps
boundaries_summed h test side n [] = refl
boundaries_summed h test side n (p ∷ ps) = by (test n p.outer) (boundaries_summed h test side (suc n) ps)
  where
    by : (b : Bool) → sum_by h (boundaries_where test side (suc n) ps) ≡ sum_from (λ k p. if test k p.outer then h (record { phase = k; side = side }) else 0) (suc n) ps →
        sum_by h (if b then record { phase = n; side = side } ∷ boundaries_where test side (suc n) ps else boundaries_where test side (suc n) ps)
        ≡ (if b then h (record { phase = n; side = side }) else 0) + sum_from (λ k p. if test k p.outer then h (record { phase = k; side = side }) else 0) (suc n) ps
    by true later = omega (arith, sum_by-cons h (record { phase = n; side = side }) (boundaries_where test side (suc n) ps), later)
    by false later = omega (arith, later)

-- 1 for a boundary whose kind passes a test
abbrev one_where : (Kind → Bool) → List Kind → Boundary → ℕ
one_where test kinds u = if test (kind_at kinds u) then 1 else 0

both_sides : (b first second : Bool) → (if first then (if b then 1 else 0) else 0) + (if second then (if b then 1 else 0) else 0) ≡ (if b then (if first then 1 else 0) + (if second then 1 else 0) else 0)
both_sides true first second = refl
both_sides false true true = refl
both_sides false true false = refl
both_sides false false true = refl
both_sides false false false = refl

abbrev boundaries_of : List StaticPhase → Slot → List Boundary
boundaries_of phases x = certain_boundaries phases x.first.outer x.second.outer x.s x.t x.level

certain_counted : (test : Kind → Bool) (kinds : List Kind) (phases : List StaticPhase) (x : Slot) → sum_by (one_where test kinds) (boundaries_of phases x) ≡ certain_count test kinds phases x
certain_counted test kinds phases x =
    let first = is_behind_first x.first.outer x.s x.t x.level in
    let second = is_before_second x.first.outer x.second.outer x.s x.t x.level in
    let at = λ (side : Side) (on : ℕ → List Head → Bool) (k : ℕ) (p : StaticPhase). if on k p.outer then one_where test kinds (record { phase = k; side = side }) else 0 in
    sum_by-append (one_where test kinds) (boundaries_where first of_first 1 phases) (boundaries_where second of_second 1 phases)
    ∙ ap (λ n. n + sum_by (one_where test kinds) (boundaries_where second of_second 1 phases)) (boundaries_summed (one_where test kinds) first of_first 1 phases)
    ∙ ap (λ n. sum_from (at of_first first) 1 phases + n) (boundaries_summed (one_where test kinds) second of_second 1 phases)
    ∙ terms_added (at of_first first) (at of_second second) 1 phases
    ∙ terms_same (λ k p. at of_first first k p + at of_second second k p) (sides_where test kinds x)
    (λ k p. both_sides (test (kind_at kinds (record { phase = k; side = of_first }))) (first k p.outer) (second k p.outer)) 1 phases

any_counted : {X : Type 0} (p : X → Bool) (xs : List X) → list_any p xs ≡ nat_lt 0 (sum_by (λ x. if p x then 1 else 0) xs)
any_counted p [] = refl
any_counted {X} p (x ∷ xs) = by (p x) (any_counted p xs) ∙ ap (nat_lt 0) (sym (sum_by-cons (λ (y : X). if p y then 1 else 0) x xs))
  where
    by : (b : Bool) → list_any p xs ≡ nat_lt 0 (sum_by (λ x. if p x then 1 else 0) xs) → (b || list_any p xs) ≡ nat_lt 0 ((if b then 1 else 0) + sum_by (λ x. if p x then 1 else 0) xs)
    by true later = sym (lt-ltb 0 (1 + sum_by (λ x. if p x then 1 else 0) xs) (omega arith))
    by false later = let same : sum_by (λ x. if p x then 1 else 0) xs ≡ 0 + sum_by (λ x. if p x then 1 else 0) xs = omega arith in later ∙ ap (nat_lt 0) same

one_producer : (side : Side) (k : Kind) → length (producers_at side k) ≡ (if is_producer k then 1 else 0)
one_producer side k = by (anchor_in k)
  where
    by : (o : Option Anchor) → length {A = Anchor × Side} (option_to_list (option_map (λ (a : Anchor). (a, side)) o)) ≡ (if is_some o then 1 else 0)
    by None = refl
    by (Some a) = refl

abbrev producers_on : List Kind → List Boundary → List (Anchor × Side)
producers_on kinds bs = flat_map (λ (u : Boundary). producers_at u.side (kind_at kinds u)) bs

last_counted : {X : Type 0} (xs : List X) → length (drop (length xs - 3) xs) ≡ min (length xs) 3
last_counted xs = let long = length-drop (length xs - 3) xs in omega (arith, long)

module _ (version : Version) (kinds : List Kind) (phases : List StaticPhase) (x : Slot) where
  abbrev shown : Bool → ℕ
  shown b =
      let bs = boundaries_of phases x in
      piece_count (if b then blocked else waits (counted version (sum_by (λ u. left_waits (kind_at kinds u)) bs)) (counted version (sum_by (λ u. right_waits (kind_at kinds u)) bs)) (last_three (producers_on kinds bs)))

  barred : list_any (λ u. is_barrier (kind_at kinds u)) (boundaries_of phases x) ≡ nat_lt 0 (certain_count is_barrier kinds phases x)
  barred = any_counted (λ u. is_barrier (kind_at kinds u)) (boundaries_of phases x) ∙ ap (nat_lt 0) (certain_counted is_barrier kinds phases x)

  -- where a barrier is certain there is no piece
  pub none_behind_barriers : 0 < certain_count is_barrier kinds phases x → piece_count (slot_signature version kinds phases x) ≡ 0
  none_behind_barriers some = ap shown (barred ∙ lt-ltb 0 (certain_count is_barrier kinds phases x) some)

  producers_counted : length (producers_on kinds (boundaries_of phases x)) ≡ certain_count is_producer kinds phases x
  producers_counted =
      length-flat_map (λ (u : Boundary). producers_at u.side (kind_at kinds u)) (boundaries_of phases x)
      ∙ sum_same (λ (u : Boundary). length (producers_at u.side (kind_at kinds u))) (one_where is_producer kinds) (λ u. one_producer u.side (kind_at kinds u)) (boundaries_of phases x)
      ∙ certain_counted is_producer kinds phases x

  -- else they are those of the last three producers
  pub pieces_of_producers : certain_count is_barrier kinds phases x ≡ 0 → piece_count (slot_signature version kinds phases x) ≡ length (pieces (min (certain_count is_producer kinds phases x) 3))
  pieces_of_producers none =
      ap shown (barred ∙ ap (nat_lt 0) none) ∙ ap (λ n. length (pieces n)) (last_counted (producers_on kinds (boundaries_of phases x)) ∙ ap (λ n. min n 3) producers_counted)
