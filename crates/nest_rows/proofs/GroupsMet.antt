-- An instance's values meet what holds of it.
use Rattle.std.proofs.Common.{◌≡◌, ℕ, zero, suc, ◌+◌, ◌<◌, ◌&&◌, ℤ, pos, negsuc, ◌+ℤ◌, ◌*ℤ◌, ◌≤ℤ◌, neg_ℤ, int_le, Bool, true, nat_lt, unsigned_abs, List, [], ◌∷◌, ◌++◌, length, slice_index_or, Option, Some, None, if◌then◌else◌, refl, ap, sym, ◌∙◌, subst, arith}
use Rattle.std.specs.List.{AllByRecursion}
use Rattle.std.proofs.lemmas.Bool.{and_parts, le-leb, ltb-true}
use Rattle.std.proofs.lemmas.Int.{ints}
use Rattle.std.proofs.Math.IntN.{*ℤ_comm}
use Rattle.nest_tree.specs.declared.tree.Compare.{Compare}
use Rattle.nest_tree.specs.declared.tree.Compare.TheVariants.{Lt, Le, Eq, Ge, Gt}
use Rattle.nest_tree.specs.declared.tree.Guard.{Guard}
use Rattle.nest_tree.specs.Form.{Form, dot, form_value, numbered}
use Rattle.nest_tree.specs.Guards.{compares, holds}
use Rattle.nest_tree.specs.Tree.{Head}
use Rattle.nest_tree.specs.WellFormed.{is_good_guard, names_only}
use Rattle.nest_model.specs.Instances.{trip_count}
use Rattle.nest_model.proofs.Spans.{down, up}
use Rattle.nest_rows.specs.declared.constraint.Constraint.{Constraint}
use Rattle.nest_rows.specs.declared.constraint.Sign.{Sign}
use Rattle.nest_rows.specs.declared.constraint.Sign.TheVariants.{Plus, Minus}
use Rattle.nest_rows.specs.Constraints.{IsMet}
use Rattle.nest_rows.specs.Groups.{at_most, compare_so, constants_have, counted, differ, guard_has, loop_has, loops_have, not_past, on_trip}
use Rattle.nest_rows.specs.Nested.{AreTrips, IsTrip}
use Rattle.nest_rows.specs.Places.{AreLaid, terms_of}
use Rattle.nest_rows.specs.Signs.{flipped, signed, with_sign}
use Rattle.nest_rows.proofs.Dots.{AreConstants, dot-append, dot-form, dot-signed, neg-mul, numbers}

pub both_met : (values : List ℤ) (xs ys : List Constraint) → AllByRecursion (IsMet values) xs → AllByRecursion (IsMet values) ys → AllByRecursion (IsMet values) (xs ++ ys)
both_met values [] ys h k = k
both_met values (x ∷ xs) ys h k = (h.0, both_met values xs ys h.1 k)

-- a loop's head names only these loops, and its step isn't 0
abbrev pub is_head_among : ℕ → List ℕ → Head → Bool
is_head_among constants around head = names_only constants around head.m1 && names_only constants around head.m2 && nat_lt 0 (unsigned_abs head.step)

module _ (values : List ℤ) (first : ℕ) (loops : List ℤ) (heads : List Head) (ns : List ℕ) (params : List ℤ) (are : AreLaid values first loops heads ns) (constants : AreConstants values params) where
  form_is : (sign : Sign) (f : Form) → names_only (length params) (numbers heads) f ≡ true → signed sign f.constant +ℤ dot (with_sign sign (terms_of first heads f)) values ≡ signed sign (form_value f loops params)
  form_is Plus f named = ap (λ z. f.constant +ℤ z) (dot-signed Plus (terms_of first heads f) values) ∙ dot-form values first loops heads ns params f are constants named
  form_is Minus f named = omega (arith, ints, dot-signed Minus (terms_of first heads f) values, dot-form values first loops heads ns params f are constants named)

  pub at_most_met : (sign : Sign) (f : Form) (most : ℤ) → names_only (length params) (numbers heads) f ≡ true → signed sign (form_value f loops params) ≤ℤ most → IsMet values (at_most sign first heads f most)
  at_most_met Plus f most named h = omega (arith, ints, form_is Plus f named, h)
  at_most_met Minus f most named h = omega (arith, ints, form_is Minus f named, h)

  pub differ_met : (sign : Sign) (left right : Form) (most : ℤ) → names_only (length params) (numbers heads) left ≡ true → names_only (length params) (numbers heads) right ≡ true →
      (signed sign (form_value left loops params) +ℤ signed (flipped sign) (form_value right loops params)) ≤ℤ most → IsMet values (differ sign first heads left right most)
  differ_met Plus left right most named named' h =
      omega (arith, ints, dot-append (with_sign Plus (terms_of first heads left)) (with_sign Minus (terms_of first heads right)) values, form_is Plus left named, form_is Minus right named', h)
  differ_met Minus left right most named named' h =
      omega (arith, ints, dot-append (with_sign Minus (terms_of first heads left)) (with_sign Plus (terms_of first heads right)) values, form_is Minus left named, form_is Plus right named', h)

  compare_met : (op : Compare) (left right : Form) → names_only (length params) (numbers heads) left ≡ true → names_only (length params) (numbers heads) right ≡ true →
      compares op (form_value left loops params) (form_value right loops params) ≡ true → AllByRecursion (IsMet values) (compare_so op first heads left right)
  compare_met Lt left right named named' h =
      let below : (form_value left loops params +ℤ neg_ℤ (form_value right loops params)) ≤ℤ negsuc 0 = grind (arith, ints, h) in
      (differ_met Plus left right (negsuc 0) named named' below, tt)
  compare_met Le left right named named' h =
      let below : (form_value left loops params +ℤ neg_ℤ (form_value right loops params)) ≤ℤ pos 0 = grind (arith, ints, h) in
      (differ_met Plus left right (pos 0) named named' below, tt)
  compare_met Eq left right named named' h =
      let below : (form_value left loops params +ℤ neg_ℤ (form_value right loops params)) ≤ℤ pos 0 = grind (arith, ints, h) in
      let above : (neg_ℤ (form_value left loops params) +ℤ form_value right loops params) ≤ℤ pos 0 = grind (arith, ints, h) in
      (differ_met Plus left right (pos 0) named named' below, (differ_met Minus left right (pos 0) named named' above, tt))
  compare_met Ge left right named named' h =
      let above : (neg_ℤ (form_value left loops params) +ℤ form_value right loops params) ≤ℤ pos 0 = grind (arith, ints, h) in
      (differ_met Minus left right (pos 0) named named' above, tt)
  compare_met Gt left right named named' h =
      let above : (neg_ℤ (form_value left loops params) +ℤ form_value right loops params) ≤ℤ negsuc 0 = grind (arith, ints, h) in
      (differ_met Minus left right (negsuc 0) named named' above, tt)

  pub guard_met : (ranks : List ℕ) (g : Option Guard) → is_good_guard (record { constants = length params; ranks = ranks }) (numbers heads) g ≡ true → holds g loops params ≡ true → AllByRecursion (IsMet values) (guard_has first heads g)
  guard_met ranks None good h = tt
  guard_met ranks (Some g) good h =
      let parts = and_parts (names_only (length params) (numbers heads) g.left) (names_only (length params) (numbers heads) g.right) good in
      compare_met g.op g.left g.right parts.0 parts.1 h

  -- one loop
  on_trip_met : (place : ℕ) (head : Head) (n : ℕ) → numbered values place ≡ numbered loops head.number → numbered values (place + 1) ≡ pos n → names_only (length params) (numbers heads) head.m1 ≡ true → IsTrip params loops head n →
      IsMet values (on_trip Plus first heads place head) × IsMet values (on_trip Minus first heads place head)
  on_trip_met place head n at trip named is =
      let plus = form_is Plus head.m1 named in
      let minus = form_is Minus head.m1 named in
      let step : neg_ℤ head.step *ℤ numbered values (place + 1) ≡ neg_ℤ (pos n *ℤ head.step) = ap (λ z. neg_ℤ head.step *ℤ z) trip ∙ neg-mul head.step (pos n) ∙ ap neg_ℤ (*ℤ_comm head.step (pos n)) in
      let back : neg_ℤ (neg_ℤ head.step) *ℤ numbered values (place + 1) ≡ pos n *ℤ head.step = neg-mul (neg_ℤ head.step) (numbered values (place + 1)) ∙ omega (arith, ints, step) in
      (omega (arith, ints, plus, minus, step, at, is.value), omega (arith, ints, plus, minus, back, at, is.value))

  not_past_met : (place : ℕ) (head : Head) (step : ℤ) (n : ℕ) → head.step ≡ step → numbered values place ≡ numbered loops head.number → names_only (length params) (numbers heads) head.m2 ≡ true → 0 < unsigned_abs step → IsTrip params loops head n →
      IsMet values (not_past first heads place head)
  not_past_met place head (pos zero) n same at named moves is = absurd (omega (arith, moves))
  not_past_met place head (pos (suc k)) n same at named moves is =
      let m1 = form_value head.m1 loops params in
      let m2 = form_value head.m2 loops params in
      let last = (up n k m1 m2 (subst (λ s. n < trip_count m1 m2 s) same is.within)).1 in
      let value = is.value ∙ ap (λ s. m1 +ℤ (pos n *ℤ s)) same in
      let sign : (if int_le (pos 0) head.step then Plus else Minus) ≡ Plus = ap (λ s. if int_le (pos 0) s then Plus else Minus) same ∙ ap (λ b. if b then Plus else Minus) (le-leb 0 (suc k) (omega arith)) in
      let rising : IsMet values (record { terms = (place, pos 1) ∷ with_sign Minus (terms_of first heads head.m2); bound = head.m2.constant }) = omega (arith, ints, form_is Minus head.m2 named, at, value, last) in
      subst (λ s. IsMet values (record { terms = (place, signed s (pos 1)) ∷ with_sign (flipped s) (terms_of first heads head.m2); bound = signed s head.m2.constant })) (sym sign) rising
  not_past_met place head (negsuc k) n same at named moves is =
      let m1 = form_value head.m1 loops params in
      let m2 = form_value head.m2 loops params in
      let last = (down n k m1 m2 (subst (λ s. n < trip_count m1 m2 s) same is.within)).0 in
      let value = is.value ∙ ap (λ s. m1 +ℤ (pos n *ℤ s)) same in
      let sign : (if int_le (pos 0) head.step then Plus else Minus) ≡ Minus = ap (λ s. if int_le (pos 0) s then Plus else Minus) same in
      let falling : IsMet values (record { terms = (place, negsuc 0) ∷ with_sign Plus (terms_of first heads head.m2); bound = neg_ℤ head.m2.constant }) = omega (arith, ints, form_is Plus head.m2 named, at, value, last) in
      subst (λ s. IsMet values (record { terms = (place, signed s (pos 1)) ∷ with_sign (flipped s) (terms_of first heads head.m2); bound = signed s head.m2.constant })) (sym sign) falling

  loop_met : (place : ℕ) (head : Head) (n : ℕ) → numbered values place ≡ numbered loops head.number → numbered values (place + 1) ≡ pos n → is_head_among (length params) (numbers heads) head ≡ true → IsTrip params loops head n →
      AllByRecursion (IsMet values) (loop_has first heads place head)
  loop_met place head n at trip good is =
      let last = and_parts (names_only (length params) (numbers heads) head.m1 && names_only (length params) (numbers heads) head.m2) (nat_lt 0 (unsigned_abs head.step)) good in
      let two = and_parts (names_only (length params) (numbers heads) head.m1) (names_only (length params) (numbers heads) head.m2) last.0 in
      let on = on_trip_met place head n at trip two.0 is in
      let from : IsMet values (counted place) = omega (arith, ints, trip) in
      (on.0, (on.1, (from, (not_past_met place head head.step n refl at two.1 (ltb-true 0 (unsigned_abs head.step) last.1) is, tt))))

  -- each of the loops from one on
  pub loops_met : (place : ℕ) (rest : List Head) (more : List ℕ) → AreLaid values place loops rest more → AllByRecursion (λ h. is_head_among (length params) (numbers heads) h ≡ true) rest → AreTrips params loops rest more →
      AllByRecursion (IsMet values) (loops_have first heads place rest)
  loops_met place [] [] laid good trips = tt
  loops_met place [] (n ∷ more) laid good trips = tt
  loops_met place (h ∷ rest) [] laid good trips = absurd laid
  loops_met place (h ∷ rest) (n ∷ more) laid good trips =
      both_met values (loop_has first heads place h) (loops_have first heads (place + 2) rest) (loop_met place h n laid.0 laid.1 good.0 trips.0) (loops_met (place + 2) rest more laid.2 good.1 trips.1)

-- the named constants have their values
pub constants_met : (values : List ℤ) (n : ℕ) (params : List ℤ) → ((k : ℕ) (d : ℤ) → k < length params → numbered values (n + k) ≡ slice_index_or params k d) → AllByRecursion (IsMet values) (constants_have n params)
constants_met values n [] h = tt
constants_met values n (v ∷ params) h =
    let here : numbered values n ≡ v = ap (numbered values) (omega arith) ∙ h 0 v (omega arith) in
    let rest = constants_met values (suc n) params (λ k d lt. ap (numbered values) (omega arith) ∙ h (suc k) d (omega (arith, lt))) in
    (omega (arith, ints, here), (omega (arith, ints, here), rest))
