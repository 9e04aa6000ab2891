-- Terms with small coefficients, and how often an unknown is counted in them.
use Rattle.std.proofs.Common.{◌≡◌, ℕ, zero, suc, ◌+◌, ◌*◌, ◌<◌, ◌≤◌, ◌==◌, ◌&&◌, ℤ, pos, ◌+ℤ◌, unsigned_abs, Bool, true, List, [], ◌∷◌, ◌++◌, length, drop, get_or, if◌then◌else◌, refl, ap, ◌∙◌, arith}
use Rattle.std.specs.List.{list_all}
use Rattle.std.proofs.lemmas.Bool.{and_from, and_parts, leb-true}
use Rattle.std.proofs.lemmas.Int.{ints}
use Rattle.std.proofs.lemmas.List.{drop_more}
use Rattle.std.proofs.lemmas.List.Folds.{list_all-append}
use Rattle.nest_tree.specs.Form.{Form, is_form, is_small, rises_above}
use Rattle.nest_rows.specs.Constraints.{coefficient}

abbrev pub are_small : List (ℕ × ℤ) → Bool
are_small terms = list_all (λ p. is_small p.1) terms

rises-small : (least : ℕ) (pairs : List (ℕ × ℤ)) → rises_above least pairs ≡ true → are_small pairs ≡ true
rises-small least [] h = refl
rises-small least (p ∷ pairs) h =
    let a = and_parts _ (rises_above p.0 pairs) h in
    let b = and_parts _ (is_small p.1) a.0 in
    and_from (is_small p.1) (are_small pairs) b.1 (rises-small p.0 pairs a.1)

pub loops-small : (f : Form) → is_form f ≡ true → are_small f.loops ≡ true
loops-small f form =
    let a = and_parts (is_small f.constant && rises_above 0 f.loops) (rises_above 0 f.params) form in
    rises-small 0 f.loops (and_parts (is_small f.constant) (rises_above 0 f.loops) a.0).1

pub params-small : (f : Form) → is_form f ≡ true → are_small f.params ≡ true
params-small f form = rises-small 0 f.params (and_parts (is_small f.constant && rises_above 0 f.loops) (rises_above 0 f.params) form).1

pub small-more : (terms new : List (ℕ × ℤ)) (n : ℕ) (c : ℤ) → are_small terms ≡ true → is_small c ≡ true → new ≡ terms ++ (n, c) ∷ [] → are_small new ≡ true
small-more terms new n c h k e = ap are_small e ∙ list_all-append (λ (p : ℕ × ℤ). is_small p.1) terms ((n, c) ∷ []) ∙ and_from (are_small terms) (is_small c && true) h (and_from (is_small c) true k refl)

pub small-at : (terms : List (ℕ × ℤ)) (k : ℕ) (d : ℕ × ℤ) → k < length terms → are_small terms ≡ true → is_small (get_or terms k d).1 ≡ true
small-at [] k d lt h = absurd (omega arith)
small-at (p ∷ terms) zero d lt h = (and_parts (is_small p.1) (are_small terms) h).0
small-at (p ∷ terms) (suc k) d lt h = small-at terms k d (omega (arith, lt)) (and_parts (is_small p.1) (are_small terms) h).1

-- one term more
pub coefficient-more : (terms : List (ℕ × ℤ)) (k n : ℕ) (d : ℕ × ℤ) → k < length terms →
    coefficient (drop k terms) n ≡ (if (get_or terms k d).0 == n then (get_or terms k d).1 else pos 0) +ℤ coefficient (drop (k + 1) terms) n
coefficient-more terms k n d lt = ap (λ ts. coefficient ts n) (drop_more terms k d lt)

pub near-more : (sum c : ℤ) (k : ℕ) → unsigned_abs sum ≤ k * 2147483647 → is_small c ≡ true → unsigned_abs (sum +ℤ c) ≤ (k + 1) * 2147483647
near-more sum c k near small = let h = leb-true (unsigned_abs c) 2147483647 small in omega (arith, ints, near, h)
