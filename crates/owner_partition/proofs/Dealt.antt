-- The instances of a phase that a processor owns are those of its own trips.
use Rattle.std.proofs.Common.{◌≡◌, ℕ, ◌+◌, ◌-◌, ◌<◌, ◌≤◌, ◌==◌, ℤ, pos, ◌+ℤ◌, ◌*ℤ◌, Bool, true, false, nat_le, nat_lt, List, [], ◌∷◌, ◌++◌, length, if◌then◌else◌, ⊎_elim, refl, ap, sym, ◌∙◌, arith}
use Rattle.std.specs.List.{filter, flat_map}
use Rattle.std.proofs.lemmas.Bool.{and_parts, cases_Bool, eqb-true, eqb-false, leb-true, ltb-true}
use Rattle.std.proofs.lemmas.Int.{ints}
use Rattle.std.proofs.lemmas.List.{get_or-set_other, get_or-set_same}
use Rattle.std.proofs.lemmas.List.Elements.{filter-append}
use Rattle.std.proofs.Math.IntN.{*ℤ-zero}
use Rattle.nest_tree.specs.Form.{Form, dot, form_value, is_form, is_small, numbered, reach_within, rises_above}
use Rattle.nest_tree.specs.Tree.{Head, Work, Statement, Statements, do_loop, work, continue, done, next}
use Rattle.nest_model.specs.Instances.{Instance, head_trips, instances_in, instances_of, is_executed, with_loop, works_in}
use Rattle.nest_walk.specs.Walkable.{are_above, is_above}
use Rattle.owner_partition.specs.declared.anchor.Anchor.{Anchor}
use Rattle.owner_partition.specs.OwnInstances.{coefficient_of, is_owned, own_values}
use Rattle.owner_partition.specs.Owners.{anchor_owner, dealt}
use Rattle.nest_tree.specs.Layout.{count_of}

-- a loop that is above all that a form names
dot_below : (least most m : ℕ) (pairs : List (ℕ × ℤ)) (values : List ℤ) (v : ℤ) → rises_above least pairs ≡ true → reach_within most pairs ≡ true → most < m → dot pairs (with_loop values m v) ≡ dot pairs values
dot_below least most m [] values v rises within above = refl
dot_below least most m (p ∷ pairs) values v rises within above =
    let a = and_parts _ (rises_above p.0 pairs) rises in
    let b = and_parts _ (is_small p.1) a.0 in
    let c = and_parts (nat_lt least p.0) _ b.0 in
    let low = ltb-true least p.0 c.0 in
    let w = and_parts (nat_le p.0 most) (reach_within most pairs) within in
    let high = leb-true p.0 most w.0 in
    let ne : p.0 - 1 ≡ m - 1 → ⊥ = λ (e : p.0 - 1 ≡ m - 1). omega (arith, low, high, above, e) in
    ap (λ x. p.1 *ℤ x +ℤ dot pairs (with_loop values m v)) (get_or-set_other values (m - 1) (p.0 - 1) v (pos 0) ne)
    ∙ ap (λ z. p.1 *ℤ numbered values p.0 +ℤ z) (dot_below p.0 most m pairs values v a.1 w.1 above)

-- a loop that is below all that is named
dot_above : (n : ℕ) (least : ℕ) (pairs : List (ℕ × ℤ)) (values : List ℤ) (v : ℤ) → 0 < n → n ≤ least → rises_above least pairs ≡ true → dot pairs (with_loop values n v) ≡ dot pairs values
dot_above n least [] values v some below rises = refl
dot_above n least (p ∷ pairs) values v some below rises =
    let a = and_parts _ (rises_above p.0 pairs) rises in
    let b = and_parts _ (is_small p.1) a.0 in
    let c = and_parts (nat_lt least p.0) _ b.0 in
    let low = ltb-true least p.0 c.0 in
    let ne : p.0 - 1 ≡ n - 1 → ⊥ = λ (e : p.0 - 1 ≡ n - 1). omega (arith, low, below, some, e) in
    ap (λ x. p.1 *ℤ x +ℤ dot pairs (with_loop values n v)) (get_or-set_other values (n - 1) (p.0 - 1) v (pos 0) ne)
    ∙ ap (λ z. p.1 *ℤ numbered values p.0 +ℤ z) (dot_above n p.0 pairs values v some (omega (arith, low, below)) a.1)

-- where a loop was at 0, its value counts with its coefficient
dot_along : (n least : ℕ) (pairs : List (ℕ × ℤ)) (values : List ℤ) (v : ℤ) → 0 < n → n - 1 < length values → numbered values n ≡ pos 0 → rises_above least pairs ≡ true →
    dot pairs (with_loop values n v) ≡ dot pairs values +ℤ coefficient_of pairs n *ℤ v
dot_along n least [] values v some within none rises = omega (arith, ints)
dot_along n least (p ∷ pairs) values v some within none rises =
    let a = and_parts _ (rises_above p.0 pairs) rises in
    let b = and_parts _ (is_small p.1) a.0 in
    let c = and_parts (nat_lt least p.0) _ b.0 in
    let low = ltb-true least p.0 c.0 in
    let choice = λ (b : Bool). dot (p ∷ pairs) values +ℤ (if b then p.1 else coefficient_of pairs n) *ℤ v in
    let here = λ (h : (p.0 == n) ≡ true).
    let e = eqb-true p.0 n h in
    let zero : p.1 *ℤ numbered values p.0 ≡ pos 0 = ap (λ m. p.1 *ℤ numbered values m) e ∙ ap (λ x. p.1 *ℤ x) none ∙ *ℤ-zero p.1 in
    let new : numbered (with_loop values n v) p.0 ≡ v = ap (numbered (with_loop values n v)) e ∙ get_or-set_same values (n - 1) v (pos 0) within in
    let later = dot_above n p.0 pairs values v some (omega (arith, e)) a.1 in
    ap (λ x. p.1 *ℤ x +ℤ dot pairs (with_loop values n v)) new ∙ ap (λ z. p.1 *ℤ v +ℤ z) later ∙ omega (arith, ints, zero) ∙ sym (ap choice h) in
    let there = λ (h : (p.0 == n) ≡ false).
    let ne : p.0 - 1 ≡ n - 1 → ⊥ = λ (e : p.0 - 1 ≡ n - 1). eqb-false p.0 n h (omega (arith, low, some, e)) in
    let later = dot_along n p.0 pairs values v some within none a.1 in
    ap (λ x. p.1 *ℤ x +ℤ dot pairs (with_loop values n v)) (get_or-set_other values (n - 1) (p.0 - 1) v (pos 0) ne) ∙ ap (λ z. p.1 *ℤ numbered values p.0 +ℤ z) later
    ∙ omega (arith, ints) ∙ sym (ap choice h) in
    ⊎_elim here there (cases_Bool (p.0 == n))

rising : (f : Form) → is_form f ≡ true → rises_above 0 f.loops ≡ true
rising f h = (and_parts (is_small f.constant) (rises_above 0 f.loops) (and_parts _ (rises_above 0 f.params) h).0).1

pub form_along : (f : Form) (n : ℕ) (values params : List ℤ) (v : ℤ) → is_form f ≡ true → 0 < n → n - 1 < length values → numbered values n ≡ pos 0 →
    form_value f (with_loop values n v) params ≡ form_value f values params +ℤ coefficient_of f.loops n *ℤ v
form_along f n values params v form some within none =
    let loops = dot_along n 0 f.loops values v some within none (rising f form) in
    omega (arith, ints, loops)

module _ (params : List ℤ) (a : Anchor) (workers p : ℕ) (form : is_form a.form ≡ true) where
  abbrev test : Instance → Bool
  test i = anchor_owner a workers i.loops params == p

  owned_below : (most m : ℕ) (loops : List ℤ) (v : ℤ) → reach_within most a.form.loops ≡ true → most < m → is_owned params a workers p (with_loop loops m v) ≡ is_owned params a workers p loops
  owned_below most m loops v within above =
      ap (λ z. count_of (dealt a.dist workers (a.form.constant +ℤ z +ℤ dot a.form.params params)) == p) (dot_below 0 most m a.form.loops loops v (rising a.form form) within above)

  all_or_none : {X : Type 0} (b : Bool) (xs ys : List X) → (if b then xs else []) ++ (if b then ys else []) ≡ (if b then xs ++ ys else [])
  all_or_none true xs ys = refl
  all_or_none false xs ys = refl

  pub no_trip : (b : Bool) → (let none : List Instance = [] in none ≡ (if b then none else none))
  no_trip true = refl
  no_trip false = refl

  one_instance : (i : Instance) (b : Bool) → filter test (if b then i ∷ [] else []) ≡ (if test i then (if b then i ∷ [] else []) else [])
  one_instance i b = elim b as (λ b. filter test (if b then i ∷ [] else []) ≡ (if test i then (if b then i ∷ [] else []) else [])) [ true ↦ refl | false ↦ no_trip (test i) ]

  each_dealt : (g : ℤ → List Instance) (b : Bool) → ((v : ℤ) → filter test (g v) ≡ (if b then g v else [])) → (vs : List ℤ) → filter test (flat_map g vs) ≡ (if b then flat_map g vs else [])
  each_dealt g b each [] = no_trip b
  each_dealt g b each (v ∷ vs) =
      filter-append test (g v) (flat_map g vs) ∙ ap (λ xs. xs ++ filter test (flat_map g vs)) (each v) ∙ ap (λ ys. (if b then g v else []) ++ ys) (each_dealt g b each vs) ∙ all_or_none b (g v) (flat_map g vs)

  -- loops that the form doesn't name change no owner
  mutual
    dealt_in : (s : Statement) (first most : ℕ) (loops : List ℤ) → reach_within most a.form.loops ≡ true → is_above most s ≡ true →
        filter test (instances_of params s first loops) ≡ (if is_owned params a workers p loops then instances_of params s first loops else [])
    dealt_in (do_loop head body) first most loops within above =
        let parts = and_parts (nat_lt most head.number) (are_above most body) above in
        let below = ltb-true most head.number parts.0 in
        let g : ℤ → List Instance = λ v. instances_in params body first (with_loop loops head.number v) in
        each_dealt g (is_owned params a workers p loops)
        (λ v. dealt_of body first most (with_loop loops head.number v) within parts.1 ∙ ap (λ b. if b then g v else []) (owned_below most head.number loops v within below))
        (head_trips params head loops)
    dealt_in (work w) first most loops within above = one_instance (record { statement = first; what = w; loops = loops }) (is_executed w loops params)
    dealt_in (continue line) first most loops within above = no_trip (is_owned params a workers p loops)

    dealt_of : (ss : Statements) (first most : ℕ) (loops : List ℤ) → reach_within most a.form.loops ≡ true → are_above most ss ≡ true →
        filter test (instances_in params ss first loops) ≡ (if is_owned params a workers p loops then instances_in params ss first loops else [])
    dealt_of done first most loops within above = no_trip (is_owned params a workers p loops)
    dealt_of (next s rest) first most loops within above =
        let parts = and_parts (is_above most s) (are_above most rest) above in
        let here = instances_of params s first loops in
        let behind = instances_in params rest (first + works_in s) loops in
        filter-append test here behind ∙ ap (λ xs. xs ++ filter test behind) (dealt_in s first most loops within parts.0)
        ∙ ap (λ ys. (if is_owned params a workers p loops then here else []) ++ ys) (dealt_of rest (first + works_in s) most loops within parts.1)
        ∙ all_or_none (is_owned params a workers p loops) here behind

  -- the instances of a piece of work, and of a CONTINUE
  pub own_of_work : (w : Work) (first : ℕ) (loops : List ℤ) → filter test (instances_of params (work w) first loops) ≡ (if is_owned params a workers p loops then instances_of params (work w) first loops else [])
  own_of_work w first loops = one_instance (record { statement = first; what = w; loops = loops }) (is_executed w loops params)

  -- a loop's own instances are those of its own trips
  own_of_trips : (head : Head) (body : Statements) (first : ℕ) (loops : List ℤ) → reach_within head.number a.form.loops ≡ true → are_above head.number body ≡ true → (vs : List ℤ) →
      filter test (flat_map (λ v. instances_in params body first (with_loop loops head.number v)) vs)
      ≡ flat_map (λ v. instances_in params body first (with_loop loops head.number v)) (filter (λ v. is_owned params a workers p (with_loop loops head.number v)) vs)
  own_of_trips head body first loops within above [] = refl
  own_of_trips head body first loops within above (v ∷ vs) =
      let g : ℤ → List Instance = λ u. instances_in params body first (with_loop loops head.number u) in
      let own : ℤ → Bool = λ u. is_owned params a workers p (with_loop loops head.number u) in
      let later = flat_map g (filter own vs) in
      filter-append test (g v) (flat_map g vs) ∙ ap (λ xs. xs ++ filter test (flat_map g vs)) (dealt_of body first head.number (with_loop loops head.number v) within above)
      ∙ ap (λ ys. (if own v then g v else []) ++ ys) (own_of_trips head body first loops within above vs)
      ∙ (elim (own v) as (λ b. (if b then g v else []) ++ later ≡ flat_map g (if b then v ∷ filter own vs else filter own vs)) [ true ↦ refl | false ↦ refl ])

  pub own_of_loop : (head : Head) (body : Statements) (first : ℕ) (loops : List ℤ) → reach_within head.number a.form.loops ≡ true → are_above head.number body ≡ true →
      filter test (instances_of params (do_loop head body) first loops) ≡ flat_map (λ v. instances_in params body first (with_loop loops head.number v)) (own_values params a workers p head loops)
  own_of_loop head body first loops within above = own_of_trips head body first loops within above (head_trips params head loops)
