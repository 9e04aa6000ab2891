-- The terms of constraints are among the unknowns.
use Rattle.std.proofs.Common.{◌≡◌, ℕ, suc, ◌+◌, ◌*◌, ◌≤◌, ◌&&◌, ◌||◌, ◌==◌, nat_le, ℤ, Bool, true, false, List, [], ◌∷◌, ◌++◌, length, map, Option, Some, None, if◌then◌else◌, ⊎_elim, refl, ap, sym, ◌∙◌, arith}
use Rattle.std.specs.List.{AllByRecursion, list_all, list_any}
use Rattle.std.proofs.lemmas.Bool.{and_from, and_parts, cases_Bool, le-leb, leb-true}
use Rattle.std.proofs.lemmas.List.Folds.{list_all-append}
use Rattle.nest_tree.specs.declared.tree.Compare.{Compare}
use Rattle.nest_tree.specs.declared.tree.Compare.TheVariants.{Lt, Le, Eq, Ge, Gt}
use Rattle.nest_tree.specs.declared.tree.Guard.{Guard}
use Rattle.nest_tree.specs.Form.{Form, is_form}
use Rattle.nest_tree.specs.Tree.{Head}
use Rattle.nest_tree.specs.WellFormed.{is_number_of, names_only}
use Rattle.nest_rows.specs.declared.constraint.Sign.{Sign}
use Rattle.nest_rows.specs.declared.constraint.Sign.TheVariants.{Plus, Minus}
use Rattle.nest_rows.specs.Groups.{at_most, compare_so, constants_have, guard_has, loop_has, loops_have}
use Rattle.nest_rows.specs.Places.{place_of, terms_of}
use Rattle.nest_rows.specs.Signs.{with_sign}
use Rattle.nest_rows.proofs.Dots.{numbers}
use Rattle.nest_rows.proofs.GroupsMet.{is_head_among}
use Rattle.nest_rows.proofs.Sums.{is_over}

abbrev are_over : ℕ → List (ℕ × ℤ) → Bool
are_over vars terms = list_all (λ t. is_number_of vars t.0) terms

pub number-from : (vars n : ℕ) → 1 ≤ n → n ≤ vars → is_number_of vars n ≡ true
number-from vars n low high = and_from (nat_le 1 n) (nat_le n vars) (le-leb 1 n low) (le-leb n vars high)

signed-over : (vars : ℕ) (sign : Sign) (terms : List (ℕ × ℤ)) → are_over vars terms ≡ true → are_over vars (with_sign sign terms) ≡ true
signed-over vars sign [] h = refl
signed-over vars sign (t ∷ terms) h =
    let parts = and_parts (is_number_of vars t.0) (are_over vars terms) h in
    and_from (is_number_of vars t.0) (are_over vars (with_sign sign terms)) parts.0 (signed-over vars sign terms parts.1)

pub both-over : (vars : ℕ) (ts us : List (ℕ × ℤ)) → are_over vars ts ≡ true → are_over vars us ≡ true → are_over vars (ts ++ us) ≡ true
both-over vars ts us h k = list_all-append (λ (t : ℕ × ℤ). is_number_of vars t.0) ts us ∙ and_from (are_over vars ts) (are_over vars us) h k

place-over : (vars first : ℕ) (heads : List Head) (n : ℕ) → 1 ≤ first → first + 2 * length heads ≤ vars + 1 → list_any (λ l. l == n) (numbers heads) ≡ true → is_number_of vars (place_of first heads n) ≡ true
place-over vars first [] n low room named = absurd (let no : false ≡ true = named in cc)
place-over vars first (h ∷ heads) n low room named =
    let place = λ (b : Bool). is_number_of vars (if b then first else place_of (first + 2) heads n) in
    ⊎_elim (λ e. ap place e ∙ number-from vars first low (omega (arith, room)))
    (λ e. ap place e ∙ place-over vars (first + 2) heads n (omega (arith, low)) (omega (arith, room)) (sym (ap (λ b. b || list_any (λ l. l == n) (numbers heads)) e) ∙ named)) (cases_Bool (h.number == n))

loops-over : (vars first : ℕ) (heads : List Head) (pairs : List (ℕ × ℤ)) → 1 ≤ first → first + 2 * length heads ≤ vars + 1 → list_all (λ p. list_any (λ l. l == p.0) (numbers heads)) pairs ≡ true → are_over vars (map (λ p. (place_of first heads p.0, p.1)) pairs) ≡ true
loops-over vars first heads [] low room named = refl
loops-over vars first heads (p ∷ pairs) low room named =
    let parts = and_parts (list_any (λ l. l == p.0) (numbers heads)) (list_all (λ (p : ℕ × ℤ). list_any (λ l. l == p.0) (numbers heads)) pairs) named in
    and_from (is_number_of vars (place_of first heads p.0)) (are_over vars (map (λ (p : ℕ × ℤ). (place_of first heads p.0, p.1)) pairs)) (place-over vars first heads p.0 low room parts.0) (loops-over vars first heads pairs low room parts.1)

constants-over : (vars constants : ℕ) (pairs : List (ℕ × ℤ)) → constants ≤ vars → list_all (λ p. is_number_of constants p.0) pairs ≡ true → are_over vars pairs ≡ true
constants-over vars constants [] room named = refl
constants-over vars constants (p ∷ pairs) room named =
    let parts = and_parts (is_number_of constants p.0) (list_all (λ (p : ℕ × ℤ). is_number_of constants p.0) pairs) named in
    let number = and_parts (nat_le 1 p.0) (nat_le p.0 constants) parts.0 in
    and_from (is_number_of vars p.0) (are_over vars pairs) (number-from vars p.0 (leb-true 1 p.0 number.0) (omega (arith, room, leb-true p.0 constants number.1))) (constants-over vars constants pairs room parts.1)

-- so many unknowns, of which the first are named constants, and these loops
module _ (vars constants first : ℕ) (heads : List Head) (low : 1 ≤ first) (few : constants ≤ vars) (room : first + 2 * length heads ≤ vars + 1) where
  pub form-over : (sign : Sign) (f : Form) → names_only constants (numbers heads) f ≡ true → are_over vars (with_sign sign (terms_of first heads f)) ≡ true
  form-over sign f named =
      let last = and_parts (is_form f && list_all (λ (p : ℕ × ℤ). list_any (λ l. l == p.0) (numbers heads)) f.loops) (list_all (λ (p : ℕ × ℤ). is_number_of constants p.0) f.params) named in
      let inner = and_parts (is_form f) (list_all (λ (p : ℕ × ℤ). list_any (λ l. l == p.0) (numbers heads)) f.loops) last.0 in
      signed-over vars sign (terms_of first heads f)
      (both-over vars (map (λ (p : ℕ × ℤ). (place_of first heads p.0, p.1)) f.loops) f.params (loops-over vars first heads f.loops low room inner.1) (constants-over vars constants f.params few last.1))

  pub at_most-over : (sign : Sign) (f : Form) (most : ℤ) → names_only constants (numbers heads) f ≡ true → is_over vars (at_most sign first heads f most) ≡ true
  at_most-over sign f most named = form-over sign f named

  differ-over : (sign other : Sign) (left right : Form) → names_only constants (numbers heads) left ≡ true → names_only constants (numbers heads) right ≡ true →
      are_over vars (with_sign sign (terms_of first heads left) ++ with_sign other (terms_of first heads right)) ≡ true
  differ-over sign other left right named named' =
      both-over vars (with_sign sign (terms_of first heads left)) (with_sign other (terms_of first heads right)) (form-over sign left named) (form-over other right named')

  compare-over : (op : Compare) (left right : Form) → names_only constants (numbers heads) left ≡ true → names_only constants (numbers heads) right ≡ true → list_all (is_over vars) (compare_so op first heads left right) ≡ true
  compare-over Lt left right named named' = and_from _ true (differ-over Plus Minus left right named named') refl
  compare-over Le left right named named' = and_from _ true (differ-over Plus Minus left right named named') refl
  compare-over Eq left right named named' = and_from _ _ (differ-over Plus Minus left right named named') (and_from _ true (differ-over Minus Plus left right named named') refl)
  compare-over Ge left right named named' = and_from _ true (differ-over Minus Plus left right named named') refl
  compare-over Gt left right named named' = and_from _ true (differ-over Minus Plus left right named named') refl

  loop-over : (place : ℕ) (h : Head) → 1 ≤ place → place + 2 ≤ vars + 1 → is_head_among constants (numbers heads) h ≡ true → list_all (is_over vars) (loop_has first heads place h) ≡ true
  loop-over place h from to good =
      let last = and_parts (names_only constants (numbers heads) h.m1 && names_only constants (numbers heads) h.m2) _ good in
      let two = and_parts (names_only constants (numbers heads) h.m1) (names_only constants (numbers heads) h.m2) last.0 in
      let value = number-from vars place from (omega (arith, to)) in
      let trip = number-from vars (place + 1) (omega arith) (omega (arith, to)) in
      let on = λ (sign other : Sign). and_from (is_number_of vars place) (is_number_of vars (place + 1) && are_over vars (with_sign other (terms_of first heads h.m1))) value (and_from (is_number_of vars (place + 1)) (are_over vars (with_sign other (terms_of first heads h.m1))) trip (form-over other h.m1 two.0)) in
      and_from _ _ (on Plus Minus) (and_from _ _ (on Minus Plus) (and_from _ _ (and_from (is_number_of vars (place + 1)) true trip refl)
      (and_from _ true (and_from (is_number_of vars place) _ value (form-over _ h.m2 two.1)) refl)))

  pub loops_have-over : (place : ℕ) (rest : List Head) → 1 ≤ place → place + 2 * length rest ≤ vars + 1 → AllByRecursion (λ h. is_head_among constants (numbers heads) h ≡ true) rest → list_all (is_over vars) (loops_have first heads place rest) ≡ true
  loops_have-over place [] from to good = refl
  loops_have-over place (h ∷ rest) from to good =
      list_all-append (is_over vars) (loop_has first heads place h) (loops_have first heads (place + 2) rest)
      ∙ and_from (list_all (is_over vars) (loop_has first heads place h)) (list_all (is_over vars) (loops_have first heads (place + 2) rest)) (loop-over place h from (omega (arith, to)) good.0) (loops_have-over (place + 2) rest (omega (arith, from)) (omega (arith, to)) good.1)

  pub guard-over : (g : Option Guard) → (guard : (x : Guard) → g ≡ Some x → names_only constants (numbers heads) x.left && names_only constants (numbers heads) x.right ≡ true) → list_all (is_over vars) (guard_has first heads g) ≡ true
  guard-over None guard = refl
  guard-over (Some x) guard =
      let parts = and_parts (names_only constants (numbers heads) x.left) (names_only constants (numbers heads) x.right) (guard x refl) in
      compare-over x.op x.left x.right parts.0 parts.1

pub constants_have-over : (vars n : ℕ) (values : List ℤ) → 1 ≤ n → n + length values ≤ vars + 1 → list_all (is_over vars) (constants_have n values) ≡ true
constants_have-over vars n [] low room = refl
constants_have-over vars n (v ∷ values) low room =
    let number = number-from vars n low (omega (arith, room)) in
    and_from _ _ (and_from (is_number_of vars n) true number refl) (and_from _ _ (and_from (is_number_of vars n) true number refl) (constants_have-over vars (suc n) values (omega (arith, low)) (omega (arith, room))))
