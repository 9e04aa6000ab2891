-- The terms of a pair's rows are among its unknowns.
use Rattle.std.proofs.Common.{◌≡◌, ℕ, zero, suc, ◌+◌, ◌*◌, ◌≤◌, ℤ, pos, negsuc, neg_ℤ, ◌&&◌, nat_lt, unsigned_abs, Bool, true, false, Option, Some, None, List, [], ◌∷◌, ◌++◌, length, slice_get, if◌then◌else◌, refl, ap, sym, ◌∙◌, arith}
use Rattle.std.specs.List.{AllByRecursion, list_all}
use Rattle.std.proofs.lemmas.Bool.{and_from, and_parts}
use Rattle.std.proofs.lemmas.List.Folds.{list_all-append}
use Rattle.nest_tree.specs.Tree.{Head}
use Rattle.nest_tree.specs.WellFormed.{is_number_of, names_only}
use Rattle.nest_rows.specs.declared.constraint.Constraint.{Constraint}
use Rattle.nest_rows.specs.declared.constraint.Sign.{Sign}
use Rattle.nest_rows.specs.declared.constraint.Sign.TheVariants.{Plus, Minus}
use Rattle.nest_rows.specs.Groups.{sign_of as sign_of_step}
use Rattle.nest_rows.specs.Places.{terms_of}
use Rattle.nest_rows.specs.Signs.{with_sign}
use Rattle.nest_rows.proofs.Dots.{numbers}
use Rattle.nest_rows.proofs.GroupsMet.{is_head_among}
use Rattle.nest_rows.proofs.Over.{both-over, form-over, number-from}
use Rattle.nest_rows.proofs.Sums.{is_over}
use Rattle.owner_partition.specs.declared.anchor.Dist.{Dist}
use Rattle.owner_partition.specs.declared.anchor.Dist.TheVariants.{Block, Cyclic}
use Rattle.comm_system.specs.Levels.{Order}
use Rattle.comm_system.specs.OwnerRows.{Direction, Piece, Placed, beside, distance, last_rows, owner_has, owner_numbers, owner_unknowns, owners_have, owners_unknowns, owns, sign_of}
use Rattle.comm_system.specs.PairRows.{Sum, apart, free_have, free_sums, last_at, last_has, ordered_so, same_element, same_loops}

abbrev pub are_over : ℕ → List (ℕ × ℤ) → Bool
are_over vars terms = list_all (λ t. is_number_of vars t.0) terms

pub lists_over : (vars : ℕ) (xs ys : List Constraint) → list_all (is_over vars) xs ≡ true → list_all (is_over vars) ys ≡ true → list_all (is_over vars) (xs ++ ys) ≡ true
lists_over vars xs ys h k = list_all-append (is_over vars) xs ys ∙ and_from (list_all (is_over vars) xs) (list_all (is_over vars) ys) h k

pub free_over : (vars n : ℕ) (bounds : List (ℤ × ℤ)) → 1 ≤ n → n + length bounds ≤ vars + 1 → list_all (is_over vars) (free_have n bounds) ≡ true
free_over vars n [] low room = refl
free_over vars n (b ∷ bounds) low room =
    let number = number-from vars n low (omega (arith, room)) in
    and_from _ _ (and_from (is_number_of vars n) true number refl) (and_from _ _ (and_from (is_number_of vars n) true number refl) (free_over vars (suc n) bounds (omega (arith, low)) (omega (arith, room))))

-- a loop's last trip
module _ (vars constants first : ℕ) (heads : List Head) (low : 1 ≤ first) (few : constants ≤ vars) (room : first + 2 * length heads ≤ vars + 1) where
  inside_over : (k place : ℕ) (rest : List Head) → 1 ≤ place → place + 2 * length rest ≤ vars + 1 → AllByRecursion (λ h. is_head_among constants (numbers heads) h ≡ true) rest → list_all (is_over vars) (last_at first heads (place + 2 * k) (slice_get rest k)) ≡ true
  inside_over k place [] from to good = refl
  inside_over zero place (h ∷ rest) from to good =
      let parts = and_parts (names_only constants (numbers heads) h.m1 && names_only constants (numbers heads) h.m2) (nat_lt 0 (unsigned_abs h.step)) good.0 in
      let named = (and_parts (names_only constants (numbers heads) h.m1) (names_only constants (numbers heads) h.m2) parts.0).1 in
      and_from _ true (and_from (is_number_of vars (place + 2 * 0)) (are_over vars (with_sign (sign_of_step h.step) (terms_of first heads h.m2))) (number-from vars (place + 2 * 0) (omega (arith, from)) (omega (arith, to)))
      (form-over vars constants first heads low few room (sign_of_step h.step) h.m2 named)) refl
  inside_over (suc k) place (h ∷ rest) from to good =
      let same : place + 2 + 2 * k ≡ place + 2 * suc k = omega arith in
      sym (ap (λ q. list_all (is_over vars) (last_at first heads q (slice_get rest k))) same) ∙ inside_over k (place + 2) rest (omega (arith, from)) (omega (arith, to)) good.1

  pub last_trip_over : (last : Option ℕ) → AllByRecursion (λ h. is_head_among constants (numbers heads) h ≡ true) heads → list_all (is_over vars) (last_has last first heads) ≡ true
  last_trip_over (Some k) good = inside_over k first heads low room good
  last_trip_over None good = refl

-- a subscript's terms, with either sign
abbrev pub IsSumOver : ℕ → Sum → Type 0
IsSumOver vars s = (sign : Sign) → are_over vars (with_sign sign s.terms) ≡ true

pub element_over : (vars : ℕ) (xs ys : List Sum) → AllByRecursion (IsSumOver vars) xs → AllByRecursion (IsSumOver vars) ys → list_all (is_over vars) (same_element xs ys) ≡ true
element_over vars [] ys h k = refl
element_over vars (x ∷ xs) [] h k = refl
element_over vars (x ∷ xs) (y ∷ ys) h k =
    and_from _ _ (both-over vars (with_sign Plus x.terms) (with_sign Minus y.terms) (h.0 Plus) (k.0 Minus))
    (and_from _ _ (both-over vars (with_sign Minus x.terms) (with_sign Plus y.terms) (h.0 Minus) (k.0 Plus)) (element_over vars xs ys h.1 k.1))

pub free_sums_over : (vars n : ℕ) (bounds : List (ℤ × ℤ)) → 1 ≤ n → n + length bounds ≤ vars + 1 → AllByRecursion (IsSumOver vars) (free_sums n bounds)
free_sums_over vars n [] low room = tt
free_sums_over vars n (b ∷ bounds) low room =
    (λ sign. and_from (is_number_of vars n) true (number-from vars n low (omega (arith, room))) refl, free_sums_over vars (suc n) bounds (omega (arith, low)) (omega (arith, room)))

pub apart_over : (vars : ℕ) (sign : Sign) (m n : ℕ) (most : ℤ) → 1 ≤ m → m ≤ vars → 1 ≤ n → n ≤ vars → is_over vars (apart sign m n most) ≡ true
apart_over vars sign m n most low high low' high' = and_from (is_number_of vars m) _ (number-from vars m low high) (and_from (is_number_of vars n) true (number-from vars n low' high') refl)

same_loops_over : (vars m n k : ℕ) → 1 ≤ m → m + 2 * k ≤ vars + 1 → 1 ≤ n → n + 2 * k ≤ vars + 1 → list_all (is_over vars) (same_loops m n k) ≡ true
same_loops_over vars m n zero low room low' room' = refl
same_loops_over vars m n (suc k) low room low' room' =
    let high : m ≤ vars = omega (arith, room) in
    let high' : n ≤ vars = omega (arith, room') in
    and_from _ _ (apart_over vars Plus m n (pos 0) low high low' high') (and_from _ _ (apart_over vars Minus m n (pos 0) low high low' high') (same_loops_over vars (m + 2) (n + 2) k (omega (arith, low)) (omega (arith, room)) (omega (arith, low')) (omega (arith, room'))))

-- room for the loops that the order speaks of
abbrev pub depth_of : Order → ℕ
depth_of order = if order.earlier then order.equal + 1 else order.equal

pub order_over : (vars m n : ℕ) (order : Order) → 1 ≤ m → m + 2 * depth_of order ≤ vars + 1 → 1 ≤ n → n + 2 * depth_of order ≤ vars + 1 → list_all (is_over vars) (ordered_so m n order) ≡ true
order_over vars m n order low room low' room' = by order.earlier room room'
  where
    by : (b : Bool) → m + 2 * (if b then order.equal + 1 else order.equal) ≤ vars + 1 → n + 2 * (if b then order.equal + 1 else order.equal) ≤ vars + 1 →
        list_all (is_over vars) (same_loops m n order.equal ++ (if b then apart Plus (m + 2 * order.equal + 1) (n + 2 * order.equal + 1) (negsuc 0) ∷ [] else [])) ≡ true
    by true r r' =
        lists_over vars (same_loops m n order.equal) (apart Plus (m + 2 * order.equal + 1) (n + 2 * order.equal + 1) (negsuc 0) ∷ []) (same_loops_over vars m n order.equal low (omega (arith, r)) low' (omega (arith, r')))
        (and_from _ true (apart_over vars Plus (m + 2 * order.equal + 1) (n + 2 * order.equal + 1) (negsuc 0) (omega arith) (omega (arith, r)) (omega arith) (omega (arith, r'))) refl)
    by false r r' = lists_over vars (same_loops m n order.equal) [] (same_loops_over vars m n order.equal low (omega (arith, r)) low' (omega (arith, r'))) refl

-- an anchor's loops are among the unknowns
pub record HasRoom (vars constants : ℕ) (p : Placed) : Type 0 where
  pub low : 1 ≤ p.first
  pub room : p.first + 2 * length p.around ≤ vars + 1
  pub named : names_only constants (numbers p.around) p.anchor.form ≡ true

owns_over : (vars : ℕ) (dist : Dist) (workers q : ℕ) (terms : List (ℕ × ℤ)) (constant : ℤ) → ((sign : Sign) → are_over vars (with_sign sign terms) ≡ true) → 1 ≤ q → q + owner_unknowns dist ≤ vars + 1 → list_all (is_over vars) (owns dist workers q terms constant) ≡ true
owns_over vars (Block b) workers q terms constant over low room =
    let number = number-from vars q low (omega (arith, room)) in
    and_from _ _ (and_from (is_number_of vars q) (are_over vars (with_sign Minus terms)) number (over Minus))
    (and_from _ true (both-over vars (with_sign Plus terms) ((q, neg_ℤ (pos b)) ∷ []) (over Plus) (and_from (is_number_of vars q) true number refl)) refl)
owns_over vars Cyclic workers q terms constant over low room =
    let number = number-from vars q low (omega (arith, room)) in
    let round = number-from vars (suc q) (omega arith) (omega (arith, room)) in
    and_from _ _ (both-over vars (with_sign Plus terms) ((suc q, neg_ℤ (pos workers)) ∷ (q, negsuc 0) ∷ []) (over Plus) (and_from (is_number_of vars (suc q)) _ round (and_from (is_number_of vars q) true number refl)))
    (and_from _ true (both-over vars (with_sign Minus terms) ((suc q, pos workers) ∷ (q, pos 1) ∷ []) (over Minus) (and_from (is_number_of vars (suc q)) _ round (and_from (is_number_of vars q) true number refl))) refl)

one_unknown : (dist : Dist) → 1 ≤ owner_unknowns dist
one_unknown (Block b) = omega arith
one_unknown Cyclic = omega arith

owner_over : (vars constants workers q : ℕ) (p : Placed) → constants ≤ vars → HasRoom vars constants p → 1 ≤ q → q + owner_unknowns p.anchor.dist ≤ vars + 1 → list_all (is_over vars) (owner_has workers q p) ≡ true
owner_over vars constants workers q p few h low room =
    let over = λ (sign : Sign). form-over vars constants p.first p.around h.low few h.room sign p.anchor.form h.named in
    let number = number-from vars q low (omega (arith, room, one_unknown p.anchor.dist)) in
    lists_over vars (owns p.anchor.dist workers q (terms_of p.first p.around p.anchor.form) p.anchor.form.constant) _ (owns_over vars p.anchor.dist workers q (terms_of p.first p.around p.anchor.form) p.anchor.form.constant over low room)
    (and_from _ _ (and_from (is_number_of vars q) true number refl) (and_from _ true (and_from (is_number_of vars q) true number refl) refl))

pub owners_over : (vars constants workers q : ℕ) (placed : List Placed) → constants ≤ vars → AllByRecursion (HasRoom vars constants) placed → 1 ≤ q → q + owners_unknowns placed ≤ vars + 1 → list_all (is_over vars) (owners_have workers q placed) ≡ true
owners_over vars constants workers q [] few all low room = refl
owners_over vars constants workers q (p ∷ placed) few all low room =
    lists_over vars (owner_has workers q p) (owners_have workers (q + owner_unknowns p.anchor.dist) placed) (owner_over vars constants workers q p few all.0 low (omega (arith, room)))
    (owners_over vars constants workers (q + owner_unknowns p.anchor.dist) placed few all.1 (omega (arith, low)) (omega (arith, room)))

-- the owners' unknowns are unknowns
abbrev pub AreAmongUnknowns : ℕ → List ℕ → Type 0
AreAmongUnknowns vars ns = AllByRecursion (λ n. (1 ≤ n) × (n ≤ vars)) ns

pub numbers_among : (vars q : ℕ) (placed : List Placed) → 1 ≤ q → q + owners_unknowns placed ≤ vars + 1 → AreAmongUnknowns vars (owner_numbers q placed)
numbers_among vars q [] low room = tt
numbers_among vars q (p ∷ placed) low room =
    ((low, omega (arith, room, one_unknown p.anchor.dist)), numbers_among vars (q + owner_unknowns p.anchor.dist) placed (omega (arith, low)) (omega (arith, room)))

beside_over : (vars q : ℕ) (ns : List ℕ) (ds : List Direction) → 1 ≤ q → q ≤ vars → AreAmongUnknowns vars ns → list_all (is_over vars) (beside q ns ds) ≡ true
beside_over vars q [] ds low high all = refl
beside_over vars q (n ∷ ns) [] low high all = refl
beside_over vars q (n ∷ ns) (d ∷ ds) low high all = and_from _ _ (apart_over vars (sign_of d) q n (negsuc 0) low high all.0.0 all.0.1) (beside_over vars q ns ds low high all.1)

pub last_over : (vars left right q p : ℕ) (ns : List ℕ) (piece : Piece) → AreAmongUnknowns vars (q ∷ p ∷ ns) → list_all (is_over vars) (last_rows left right q p ns piece) ≡ true
last_over vars left right q p ns piece all =
    and_from _ _ (apart_over vars (sign_of piece.range) q p (neg_ℤ (pos (distance piece.range left right))) all.0.0 all.0.1 all.1.0.0 all.1.0.1) (beside_over vars q ns piece.producers all.0.0 all.0.1 all.1.1)
