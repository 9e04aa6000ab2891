-- The value of a form from the loops round a place is that from all loops' values by number.
use Rattle.std.proofs.Common.{◌≡◌, ℕ, ◌-◌, ◌<◌, ◌==◌, ℤ, pos, ◌+ℤ◌, ◌*ℤ◌, Bool, true, false, nat_lt, nat_le, List, [], ◌∷◌, length, get_or, if◌then◌else◌, ⊎_elim, refl, ap, sym, ◌∙◌, arith}
use Rattle.std.specs.List.{list_all}
use Rattle.std.proofs.lemmas.Bool.{and_parts, cases_Bool, eqb-true, eqb-false, leb-true, ltb-true}
use Rattle.std.proofs.lemmas.List.{get_or-set_same, get_or-set_other}
use Rattle.nest_tree.specs.Form.{Form, dot, form_value, is_form, is_small, numbered, rises_above}
use Rattle.nest_tree.specs.Values.{wrapped}
use Rattle.nest_tree.specs.WellFormed.{is_number_of}
use Rattle.nest_tree.proofs.FirstLimits.{at_replicate}
use Rattle.nest_model.specs.Instances.{with_loop}
use Rattle.nest_walk.specs.Paths.{Round, by_number, value_among, dot_among, form_among}
use Rattle.nest_walk.proofs.Steps.{small_wrapped}
use Rattle.nest_walk.proofs.WalkMoves.{by_number-length}

value_same : (count : ℕ) (rounds : List Round) (n : ℕ) → 0 < n → list_all (λ (r : Round). is_number_of count r.number) rounds ≡ true →
    value_among rounds n ≡ numbered (by_number count rounds) n
value_same count [] n some all = sym (at_replicate count (n - 1) (pos 0))
value_same count (r ∷ rounds) n some all =
    let parts = and_parts (is_number_of count r.number) (list_all (λ (q : Round). is_number_of count q.number) rounds) all in
    let number = and_parts (nat_le 1 r.number) (nat_le r.number count) parts.0 in
    let low = leb-true 1 r.number number.0 in
    let high = leb-true r.number count number.1 in
    let within : r.number - 1 < length (by_number count rounds) = omega (arith, low, high, by_number-length count rounds) in
    let choice = λ (b : Bool). if b then r.value else value_among rounds n in
    let here = λ (h : (r.number == n) ≡ true).
    let e = eqb-true r.number n h in
    ap choice h ∙ sym (get_or-set_same (by_number count rounds) (r.number - 1) r.value (pos 0) within)
    ∙ ap (λ k. get_or (with_loop (by_number count rounds) r.number r.value) (k - 1) (pos 0)) e in
    let there = λ (h : (r.number == n) ≡ false).
    let ne : n - 1 ≡ r.number - 1 → ⊥ = λ (e : n - 1 ≡ r.number - 1). eqb-false r.number n h (omega (arith, low, some, e)) in
    ap choice h ∙ value_same count rounds n some parts.1 ∙ sym (get_or-set_other (by_number count rounds) (r.number - 1) (n - 1) r.value (pos 0) ne) in
    ⊎_elim here there (cases_Bool (r.number == n))

dot_same : (count : ℕ) (rounds : List Round) (least : ℕ) (pairs : List (ℕ × ℤ)) → list_all (λ (r : Round). is_number_of count r.number) rounds ≡ true →
    rises_above least pairs ≡ true → dot_among pairs rounds ≡ dot pairs (by_number count rounds)
dot_same count rounds least [] all rises = refl
dot_same count rounds least (p ∷ pairs) all rises =
    let a = and_parts _ (rises_above p.0 pairs) rises in
    let b = and_parts _ (is_small p.1) a.0 in
    let c = and_parts (nat_lt least p.0) _ b.0 in
    let above = ltb-true least p.0 c.0 in
    ap (λ v. p.1 *ℤ v +ℤ dot_among pairs rounds) (value_same count rounds p.0 (omega (arith, above)) all)
    ∙ ap (λ z. p.1 *ℤ numbered (by_number count rounds) p.0 +ℤ z) (dot_same count rounds p.0 pairs all a.1)

pub form_same : (count : ℕ) (rounds : List Round) (f : Form) (params : List ℤ) → list_all (λ (r : Round). is_number_of count r.number) rounds ≡ true →
    is_form f ≡ true → form_among f rounds params ≡ form_value f (by_number count rounds) params
form_same count rounds f params all form =
    let a = and_parts _ (rises_above 0 f.params) form in
    let b = and_parts (is_small f.constant) (rises_above 0 f.loops) a.0 in
    ap (λ z. f.constant +ℤ z +ℤ dot f.params params) (dot_same count rounds 0 f.loops all b.1)

-- a small value is exact
pub exact : (count : ℕ) (rounds : List Round) (f : Form) (params : List ℤ) (value : ℤ) → list_all (λ (r : Round). is_number_of count r.number) rounds ≡ true →
    is_form f ≡ true → is_small (form_value f (by_number count rounds) params) ≡ true → value ≡ wrapped (form_among f rounds params) → value ≡ form_value f (by_number count rounds) params
exact count rounds f params value all form small is =
    is ∙ ap wrapped (form_same count rounds f params all form) ∙ small_wrapped (form_value f (by_number count rounds) params) small
