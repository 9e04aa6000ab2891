-- Forms within the limit of their numbers.
use Rattle.std.proofs.Common.{◌≡◌, ℕ, zero, suc, ◌+◌, ◌<◌, nat_lt, nat_le, ℤ, pos, negsuc, ◌*ℤ◌, unsigned_abs, Bool, true, false, ◌&&◌, List, [], ◌∷◌, ◌++◌, length, map, get_or, drop, if◌then◌else◌, Some, None, IsTrue, refl, sym, ap, ◌∙◌, arith, add-one}
use Rattle.std.proofs.Math.Seq.{drop-cons}
use Rattle.std.proofs.lemmas.Bool.{and_parts, and_from}
use Rattle.std.proofs.lemmas.Bool.Decides.{nat_tests}
use Rattle.std.proofs.lemmas.Int.{unsigned_abs-mul}
use Rattle.std.specs.Ordering.{int_eq}
use Rattle.nest_tree.specs.Form.{Form, IsForm, rises_above, is_small}
use Rattle.f77_scene.specs.Affine.{kept, times, pairs_times}
use Rattle.f77_program.specs.declared.linear.Linear.TheVariants.{Past, Within}
use Rattle.f77_program.specs.Linear.{past, linear_with, limited, first_past}
use Rattle.f77_program.specs.Sums.{Ascends}
use Rattle.f77_program.proofs.Summed.{nonzero}

-- ---- the first number past the limit

pub first_past_step : (pairs : List (ℕ × ℤ)) (i : ℕ) (d : ℕ × ℤ) → i < length pairs → first_past (drop i pairs) ≡ (if is_small (get_or pairs i d).1 then first_past (drop (i + 1) pairs) else Some (get_or pairs i d).1)
first_past_step pairs i d h = rw (add-one) (ap first_past (drop-cons pairs i d h))

abbrev coefficients : List (ℕ × ℤ) → List ℤ
coefficients pairs = map (λ (p : ℕ × ℤ). p.1) pairs

pub past-append : (xs ys : List ℤ) → past (xs ++ ys) ≡ past xs ++ past ys
past-append [] ys = refl
past-append (x ∷ xs) ys = by_test (is_small x) refl (past-append xs ys)
  where
    by_test : (b : Bool) → is_small x ≡ b → past (xs ++ ys) ≡ past xs ++ past ys → past (x ∷ xs ++ ys) ≡ past (x ∷ xs) ++ past ys
    by_test true e rest = rw e rest
    by_test false e rest = rw e (ap (λ zs. x ∷ zs) rest)

none_past : (pairs : List (ℕ × ℤ)) → first_past pairs ≡ None → past (coefficients pairs) ≡ []
none_past [] h = refl
none_past (p ∷ pairs) h = by_test (is_small p.1) refl (none_past pairs)
  where
    by_test : (b : Bool) → is_small p.1 ≡ b → (first_past pairs ≡ None → past (coefficients pairs) ≡ []) → past (coefficients (p ∷ pairs)) ≡ []
    by_test true e rest = rw e (rest (sym (ap (λ b. if b then first_past pairs else Some p.1) e) ∙ h))
    by_test false e rest = absurd (let there : Some p.1 ≡ None = sym (ap (λ b. if b then first_past pairs else Some p.1) e) ∙ h in cc)

past-small : (z : ℤ) (zs : List ℤ) → is_small z ≡ true → past (z ∷ zs) ≡ past zs
past-small z zs e = rw e refl

past-large : (z : ℤ) (zs : List ℤ) → is_small z ≡ false → past (z ∷ zs) ≡ z ∷ past zs
past-large z zs e = rw e refl

some_past : (pairs : List (ℕ × ℤ)) (z : ℤ) → first_past pairs ≡ Some z → (rest : List ℤ) × (past (coefficients pairs) ≡ z ∷ rest)
some_past [] z h = absurd cc
some_past (p ∷ pairs) z h = by_test (is_small p.1) refl (some_past pairs z)
  where
    by_test : (b : Bool) → is_small p.1 ≡ b → (first_past pairs ≡ Some z → (rest : List ℤ) × (past (coefficients pairs) ≡ z ∷ rest)) → (rest : List ℤ) × (past (coefficients (p ∷ pairs)) ≡ z ∷ rest)
    by_test true e rest =
        let r = rest (sym (ap (λ b. if b then first_past pairs else Some p.1) e) ∙ h) in
        (r.0, past-small p.1 (coefficients pairs) e ∙ r.1)
    by_test false e rest =
        let there : Some p.1 ≡ Some z = sym (ap (λ b. if b then first_past pairs else Some p.1) e) ∙ h in
        let same : p.1 ≡ z = cc in
        (past (coefficients pairs), past-large p.1 (coefficients pairs) e ∙ ap (λ x. x ∷ past (coefficients pairs)) same)

-- ---- a form, by its parts

abbrev form : ℤ → List (ℕ × ℤ) → List (ℕ × ℤ) → Form
form c loops params = record { constant = c; loops = loops; params = params }

parted : (loops params : List (ℕ × ℤ)) (xs ys : List ℤ) → past (coefficients loops) ≡ xs → past (coefficients params) ≡ ys → past (coefficients loops ++ coefficients params) ≡ xs ++ ys
parted loops params xs ys l p = past-append (coefficients loops) (coefficients params) ∙ ap (λ zs. zs ++ past (coefficients params)) l ∙ ap (λ zs. xs ++ zs) p

pub limited-constant : (c : ℤ) (loops params : List (ℕ × ℤ)) → is_small c ≡ false → limited (form c loops params) ≡ Past c
limited-constant c loops params h = rw h refl

pub limited-loops : (c : ℤ) (loops params : List (ℕ × ℤ)) (z : ℤ) → is_small c ≡ true → first_past loops ≡ Some z → limited (form c loops params) ≡ Past z
limited-loops c loops params z h l =
    let s = some_past loops z l in
    rw h (ap (λ zs. linear_with zs (form c loops params)) (parted loops params (z ∷ s.0) (past (coefficients params)) s.1 refl))

pub limited-params : (c : ℤ) (loops params : List (ℕ × ℤ)) (z : ℤ) → is_small c ≡ true → first_past loops ≡ None → first_past params ≡ Some z → limited (form c loops params) ≡ Past z
limited-params c loops params z h l p =
    let s = some_past params z p in
    rw h (ap (λ zs. linear_with zs (form c loops params)) (parted loops params [] (z ∷ s.0) (none_past loops l) s.1))

pub limited-within : (c : ℤ) (loops params : List (ℕ × ℤ)) → is_small c ≡ true → first_past loops ≡ None → first_past params ≡ None → limited (form c loops params) ≡ Within (form c loops params)
limited-within c loops params h l p = rw h (ap (λ zs. linear_with zs (form c loops params)) (parted loops params [] [] (none_past loops l) (none_past params p)))

-- ---- ordered pairs without a coefficient past the limit rise

-- a number other than 0 has a size
pub some_size : (c : ℤ) → int_eq c (pos 0) ≡ false → nat_lt 0 (unsigned_abs c) ≡ true
some_size (pos zero) h = absurd cc
some_size (pos (suc n)) h = grind (arith, nat_tests)
some_size (negsuc n) h = grind (arith, nat_tests)

pub rises : (least : ℕ) (pairs : List (ℕ × ℤ)) → Ascends least pairs → first_past pairs ≡ None → IsTrue (rises_above least pairs)
rises least [] h f = refl
rises least (p ∷ pairs) h f = by_test (is_small p.1) refl (rises p.0 pairs h.2)
  where
    by_test : (b : Bool) → is_small p.1 ≡ b → (first_past pairs ≡ None → IsTrue (rises_above p.0 pairs)) → IsTrue (rises_above least (p ∷ pairs))
    by_test true e rest =
        let above : nat_lt least p.0 ≡ true = grind (arith, nat_tests, h.0) in
        and_from (nat_lt least p.0 && nat_lt 0 (unsigned_abs p.1) && is_small p.1) (rises_above p.0 pairs)
        (and_from (nat_lt least p.0 && nat_lt 0 (unsigned_abs p.1)) (is_small p.1) (and_from (nat_lt least p.0) (nat_lt 0 (unsigned_abs p.1)) above (some_size p.1 h.1)) e)
        (rest (sym (ap (λ b. if b then first_past pairs else Some p.1) e) ∙ f))
    by_test false e rest = absurd (let there : Some p.1 ≡ None = sym (ap (λ b. if b then first_past pairs else Some p.1) e) ∙ f in cc)

pub is_form : (c : ℤ) (loops params : List (ℕ × ℤ)) → is_small c ≡ true → Ascends 0 loops → Ascends 0 params → first_past loops ≡ None → first_past params ≡ None → IsForm (form c loops params)
is_form c loops params h l p f g = and_from (is_small c && rises_above 0 loops) (rises_above 0 params) (and_from (is_small c) (rises_above 0 loops) h (rises 0 loops l f)) (rises 0 params p g)

-- ---- negatives

negative_size : (c : ℤ) → unsigned_abs (negsuc 0 *ℤ c) ≡ unsigned_abs c
negative_size c = unsigned_abs-mul (negsuc 0) c ∙ omega arith

negative_kept : (n : ℕ) (c : ℤ) (pairs : List (ℕ × ℤ)) → nat_lt 0 (unsigned_abs c) ≡ true → kept n (negsuc 0 *ℤ c) pairs ≡ (n, negsuc 0 *ℤ c) ∷ pairs
negative_kept n c pairs h = let other : int_eq (negsuc 0 *ℤ c) (pos 0) ≡ false = nonzero (negsuc 0 *ℤ c) (ap (nat_lt 0) (negative_size c) ∙ h) in rw other refl

rises-negative : (least : ℕ) (pairs : List (ℕ × ℤ)) → IsTrue (rises_above least pairs) → IsTrue (rises_above least (pairs_times (negsuc 0) pairs))
rises-negative least [] h = refl
rises-negative least (p ∷ pairs) h =
    let a = and_parts (nat_lt least p.0 && nat_lt 0 (unsigned_abs p.1) && is_small p.1) (rises_above p.0 pairs) h in
    let b = and_parts (nat_lt least p.0 && nat_lt 0 (unsigned_abs p.1)) (is_small p.1) a.0 in
    let c = and_parts (nat_lt least p.0) (nat_lt 0 (unsigned_abs p.1)) b.0 in
    let z = negsuc 0 *ℤ p.1 in
    ap (rises_above least) (negative_kept p.0 p.1 (pairs_times (negsuc 0) pairs) c.1)
    ∙ and_from (nat_lt least p.0 && nat_lt 0 (unsigned_abs z) && is_small z) (rises_above p.0 (pairs_times (negsuc 0) pairs))
    (and_from (nat_lt least p.0 && nat_lt 0 (unsigned_abs z)) (is_small z) (and_from (nat_lt least p.0) (nat_lt 0 (unsigned_abs z)) c.0 (ap (nat_lt 0) (negative_size p.1) ∙ c.1)) (ap (λ n. nat_le n 2147483647) (negative_size p.1) ∙ b.1))
    (rises-negative p.0 pairs a.1)

pub is_form-negative : (f : Form) → IsForm f → IsForm (times (negsuc 0) f)
is_form-negative f h =
    let a = and_parts (is_small f.constant && rises_above 0 f.loops) (rises_above 0 f.params) h in
    let b = and_parts (is_small f.constant) (rises_above 0 f.loops) a.0 in
    let z = negsuc 0 *ℤ f.constant in
    and_from (is_small z && rises_above 0 (pairs_times (negsuc 0) f.loops)) (rises_above 0 (pairs_times (negsuc 0) f.params))
    (and_from (is_small z) (rises_above 0 (pairs_times (negsuc 0) f.loops)) (ap (λ n. nat_le n 2147483647) (negative_size f.constant) ∙ b.0) (rises-negative 0 f.loops b.1)) (rises-negative 0 f.params a.1)
