-- Two points at which accesses meet meet the rows of their pair.
use Rattle.std.proofs.Common.{◌≡◌, ℕ, zero, suc, ◌+◌, ◌*◌, ℤ, pos, negsuc, ◌+ℤ◌, ◌*ℤ◌, ◌-ℤ◌, ◌≤ℤ◌, int_le, ◌&&◌, nat_lt, unsigned_abs, Bool, true, false, Option, Some, None, List, [], ◌∷◌, map, length, slice_get, if◌then◌else◌, refl, ap, sym, ◌∙◌, subst, arith}
use Rattle.std.specs.List.{AllByRecursion, list_all}
use Rattle.std.proofs.lemmas.Bool.{and_parts}
use Rattle.std.proofs.lemmas.Int.{ints}
use Rattle.nest_tree.specs.Form.{Form, dot, form_value, numbered}
use Rattle.nest_tree.specs.Tree.{Head}
use Rattle.nest_tree.specs.WellFormed.{names_only}
use Rattle.nest_rows.specs.declared.constraint.Sign.{Sign}
use Rattle.nest_rows.specs.declared.constraint.Sign.TheVariants.{Plus, Minus}
use Rattle.nest_rows.specs.Constraints.{IsMet}
use Rattle.nest_rows.specs.Places.{AreLaid, terms_of}
use Rattle.nest_rows.specs.Signs.{flipped, signed, with_sign}
use Rattle.nest_rows.proofs.Dots.{AreConstants, dot-append, dot-form, dot-signed, numbers}
use Rattle.nest_rows.proofs.GroupsMet.{both_met, is_head_among}
use Rattle.comm_system.specs.Levels.{Order}
use Rattle.comm_system.specs.Meetings.{AreFree, AreSame, IsEarlier, IsEarlierWhere, IsBehind, IsInLastTrip, IsInLastTripWhere, IsPast}
use Rattle.comm_system.specs.PairRows.{Sum, apart, free_have, free_sums, last_at, last_has, no_more, ordered_so, past_next, same_element, same_loops, sum_of}
use Rattle.comm_laws.proofs.Lies.{LiesAt}

-- free subscripts within their bounds
pub free_met : (values : List ℤ) (n : ℕ) (bounds : List (ℤ × ℤ)) (ds : List ℤ) → LiesAt values n ds → AreFree bounds ds → AllByRecursion (IsMet values) (free_have n bounds)
free_met values n [] ds lies free = tt
free_met values n (b ∷ bounds) [] lies free = absurd free
free_met values n (b ∷ bounds) (d ∷ ds) lies free = (omega (arith, ints, lies.0, free.1), (omega (arith, ints, lies.0, free.0), free_met values (suc n) bounds ds lies.1 free.2))

-- the value of a subscript
abbrev pub sum_value : List ℤ → Sum → ℤ
sum_value values s = s.constant +ℤ dot s.terms values

no_more_met : (values : List ℤ) (sign : Sign) (x y : Sum) → sum_value values x ≡ sum_value values y → IsMet values (no_more sign x y)
no_more_met values Plus x y same =
    omega (arith, ints, dot-append (with_sign Plus x.terms) (with_sign Minus y.terms) values, dot-signed Plus x.terms values, dot-signed Minus y.terms values, same)
no_more_met values Minus x y same =
    omega (arith, ints, dot-append (with_sign Minus x.terms) (with_sign Plus y.terms) values, dot-signed Minus x.terms values, dot-signed Plus y.terms values, same)

pub element_met : (values : List ℤ) (xs ys : List Sum) → map (sum_value values) xs ≡ map (sum_value values) ys → AllByRecursion (IsMet values) (same_element xs ys)
element_met values [] ys same = tt
element_met values (x ∷ xs) [] same = tt
element_met values (x ∷ xs) (y ∷ ys) same =
    let here : sum_value values x ≡ sum_value values y = cc in
    let later : map (sum_value values) xs ≡ map (sum_value values) ys = cc in
    (no_more_met values Plus x y here, (no_more_met values Minus x y here, element_met values xs ys later))

-- the subscripts of an element
pub forms_valued : (values : List ℤ) (first : ℕ) (loops : List ℤ) (heads : List Head) (ns : List ℕ) (params : List ℤ) → AreLaid values first loops heads ns → AreConstants values params → (fs : List Form) → list_all (names_only (length params) (numbers heads)) fs ≡ true →
    map (sum_value values) (map (sum_of first heads) fs) ≡ map (λ f. form_value f loops params) fs
forms_valued values first loops heads ns params laid constants [] named = refl
forms_valued values first loops heads ns params laid constants (f ∷ fs) named =
    let parts = and_parts (names_only (length params) (numbers heads) f) (list_all (names_only (length params) (numbers heads)) fs) named in
    ap (λ z. z ∷ map (sum_value values) (map (sum_of first heads) fs)) (dot-form values first loops heads ns params f laid constants parts.0)
    ∙ ap (λ zs. form_value f loops params ∷ zs) (forms_valued values first loops heads ns params laid constants fs parts.1)

-- and of an array that is printed whole
pub free_valued : (values : List ℤ) (n : ℕ) (bounds : List (ℤ × ℤ)) (ds : List ℤ) → LiesAt values n ds → AreFree bounds ds → map (sum_value values) (free_sums n bounds) ≡ ds
free_valued values n [] [] lies free = refl
free_valued values n [] (d ∷ ds) lies free = absurd free
free_valued values n (b ∷ bounds) [] lies free = absurd free
free_valued values n (b ∷ bounds) (d ∷ ds) lies free =
    let here : pos 0 +ℤ (pos 1 *ℤ numbered values n +ℤ pos 0) ≡ d = omega (arith, ints, lies.0) in
    ap (λ z. z ∷ map (sum_value values) (free_sums (suc n) bounds)) here ∙ ap (λ zs. d ∷ zs) (free_valued values (suc n) bounds ds lies.1 free.2)

-- the difference of two unknowns
pub apart_met : (values : List ℤ) (sign : Sign) (m n : ℕ) (most : ℤ) → signed sign (numbered values m -ℤ numbered values n) ≤ℤ most → IsMet values (apart sign m n most)
apart_met values Plus m n most h = omega (arith, ints, h)
apart_met values Minus m n most h = omega (arith, ints, h)

equal_apart : (values : List ℤ) (m n : ℕ) → numbered values m ≡ numbered values n → IsMet values (apart Plus m n (pos 0)) × IsMet values (apart Minus m n (pos 0))
equal_apart values m n same = (apart_met values Plus m n (pos 0) (omega (arith, ints, same)), apart_met values Minus m n (pos 0) (omega (arith, ints, same)))

same_loops_met : (values : List ℤ) (m n k : ℕ) (loops loops' : List ℤ) (heads others : List Head) (ns ms : List ℕ) → AreLaid values m loops heads ns → AreLaid values n loops' others ms → AreSame k heads others loops loops' → AllByRecursion (IsMet values) (same_loops m n k)
same_loops_met values m n zero loops loops' heads others ns ms here there same = tt
same_loops_met values m n (suc k) loops loops' [] others ns ms here there same = absurd same
same_loops_met values m n (suc k) loops loops' (h ∷ heads) [] ns ms here there same = absurd same
same_loops_met values m n (suc k) loops loops' (h ∷ heads) (g ∷ others) [] ms here there same = absurd here
same_loops_met values m n (suc k) loops loops' (h ∷ heads) (g ∷ others) (i ∷ ns) [] here there same = absurd there
same_loops_met values m n (suc k) loops loops' (h ∷ heads) (g ∷ others) (i ∷ ns) (j ∷ ms) here there same =
    let rows = equal_apart values m n (here.0 ∙ same.0 ∙ sym there.0) in
    (rows.0, (rows.1, same_loops_met values (m + 2) (n + 2) k loops loops' heads others ns ms here.2 there.2 same.1))

-- trips of the loops inside so many
earlier_apart : (values : List ℤ) (m n k : ℕ) (loops loops' : List ℤ) (heads others : List Head) (ns ms : List ℕ) → AreLaid values m loops heads ns → AreLaid values n loops' others ms → length ns ≡ length heads → length ms ≡ length others → IsEarlier k ns ms →
    (numbered values (m + 2 * k + 1) -ℤ numbered values (n + 2 * k + 1)) ≤ℤ negsuc 0
earlier_apart values m n k loops loops' heads others [] ms here there few few' earlier = absurd earlier
earlier_apart values m n k loops loops' heads others (i ∷ ns) [] here there few few' earlier = absurd earlier
earlier_apart values m n k loops loops' [] others (i ∷ ns) (j ∷ ms) here there few few' earlier = absurd (omega (arith, few))
earlier_apart values m n k loops loops' (h ∷ heads) [] (i ∷ ns) (j ∷ ms) here there few few' earlier = absurd (omega (arith, few'))
earlier_apart values m n zero loops loops' (h ∷ heads) (g ∷ others) (i ∷ ns) (j ∷ ms) here there few few' earlier =
    let one : m + 2 * 0 + 1 ≡ m + 1 = omega arith in
    let two : n + 2 * 0 + 1 ≡ n + 1 = omega arith in
    let left : numbered values (m + 2 * 0 + 1) ≡ pos i = ap (numbered values) one ∙ here.1 in
    let right : numbered values (n + 2 * 0 + 1) ≡ pos j = ap (numbered values) two ∙ there.1 in
    omega (arith, ints, left, right, earlier)
earlier_apart values m n (suc k) loops loops' (h ∷ heads) (g ∷ others) (i ∷ ns) (j ∷ ms) here there few few' earlier =
    let one : m + 2 + 2 * k + 1 ≡ m + 2 * suc k + 1 = omega arith in
    let two : n + 2 + 2 * k + 1 ≡ n + 2 * suc k + 1 = omega arith in
    subst (λ x. (numbered values x -ℤ numbered values (n + 2 * suc k + 1)) ≤ℤ negsuc 0) one
    (subst (λ y. (numbered values (m + 2 + 2 * k + 1) -ℤ numbered values y) ≤ℤ negsuc 0) two (earlier_apart values (m + 2) (n + 2) k loops loops' heads others ns ms here.2 there.2 (omega (arith, few)) (omega (arith, few')) earlier))

pub order_met : (values : List ℤ) (m n : ℕ) (order : Order) (loops loops' : List ℤ) (heads others : List Head) (ns ms : List ℕ) → AreLaid values m loops heads ns → AreLaid values n loops' others ms → length ns ≡ length heads → length ms ≡ length others →
    AreSame order.equal heads others loops loops' → IsEarlierWhere order.earlier order.equal ns ms → AllByRecursion (IsMet values) (ordered_so m n order)
order_met values m n order loops loops' heads others ns ms here there few few' same earlier =
    both_met values (same_loops m n order.equal) (if order.earlier then apart Plus (m + 2 * order.equal + 1) (n + 2 * order.equal + 1) (negsuc 0) ∷ [] else [])
    (same_loops_met values m n order.equal loops loops' heads others ns ms here there same) (by order.earlier earlier)
  where
    by : (b : Bool) → IsEarlierWhere b order.equal ns ms → AllByRecursion (IsMet values) (if b then apart Plus (m + 2 * order.equal + 1) (n + 2 * order.equal + 1) (negsuc 0) ∷ [] else [])
    by true h = (apart_met values Plus (m + 2 * order.equal + 1) (n + 2 * order.equal + 1) (negsuc 0) (earlier_apart values m n order.equal loops loops' heads others ns ms here there few few' h), tt)
    by false h = tt

-- ---- a loop's last trip

module _ (values : List ℤ) (first : ℕ) (loops : List ℤ) (heads : List Head) (ns : List ℕ) (params : List ℤ) (are : AreLaid values first loops heads ns) (constants : AreConstants values params) where
  past_met : (place : ℕ) (head : Head) → numbered values place ≡ numbered loops head.number → names_only (length params) (numbers heads) head.m2 ≡ true → IsPast head.step (numbered loops head.number +ℤ head.step) (form_value head.m2 loops params) →
      IsMet values (past_next first heads place head)
  past_met place head at named past = by (int_le (pos 0) head.step) past
    where
      by : (b : Bool) → IsBehind b (numbered loops head.number +ℤ head.step) (form_value head.m2 loops params) → IsMet values (record {
        terms = (place, signed (flipped (if b then Plus else Minus)) (pos 1)) ∷ with_sign (if b then Plus else Minus) (terms_of first heads head.m2);
        bound = signed (if b then Plus else Minus) head.step -ℤ pos 1 -ℤ signed (if b then Plus else Minus) head.m2.constant;
      })
      by true h = omega (arith, ints, dot-signed Plus (terms_of first heads head.m2) values, dot-form values first loops heads ns params head.m2 are constants named, at, h)
      by false h = omega (arith, ints, dot-signed Minus (terms_of first heads head.m2) values, dot-form values first loops heads ns params head.m2 are constants named, at, h)

  -- of the loop inside so many of these
  inside_met : (k place : ℕ) (rest : List Head) (more : List ℕ) → AreLaid values place loops rest more → AllByRecursion (λ h. is_head_among (length params) (numbers heads) h ≡ true) rest → IsInLastTrip params loops (slice_get rest k) →
      AllByRecursion (IsMet values) (last_at first heads (place + 2 * k) (slice_get rest k))
  inside_met k place [] more laid good last = tt
  inside_met k place (h ∷ rest) [] laid good last = absurd laid
  inside_met zero place (h ∷ rest) (n ∷ more) laid good last =
      let parts = and_parts (names_only (length params) (numbers heads) h.m1 && names_only (length params) (numbers heads) h.m2) (nat_lt 0 (unsigned_abs h.step)) good.0 in
      let named = (and_parts (names_only (length params) (numbers heads) h.m1) (names_only (length params) (numbers heads) h.m2) parts.0).1 in
      let same : place + 2 * 0 ≡ place = omega arith in
      (past_met (place + 2 * 0) h (ap (numbered values) same ∙ laid.0) named last, tt)
  inside_met (suc k) place (h ∷ rest) (n ∷ more) laid good last =
      let same : place + 2 + 2 * k ≡ place + 2 * suc k = omega arith in
      subst (λ q. AllByRecursion (IsMet values) (last_at first heads q (slice_get rest k))) same (inside_met k (place + 2) rest more laid.2 good.1 last)

  -- an access that is made in the last trip alone
  pub last_trip_met : (last : Option ℕ) → AllByRecursion (λ h. is_head_among (length params) (numbers heads) h ≡ true) heads → IsInLastTripWhere last params loops heads → AllByRecursion (IsMet values) (last_has last first heads)
  last_trip_met (Some k) good is = inside_met k first heads ns are good is
  last_trip_met None good is = tt
