-- Values of loops by number, where some of them are written anew.
use Rattle.std.proofs.Common.{◌≡◌, ℕ, zero, suc, ◌-◌, ◌<◌, ◌≤◌, ◌==◌, ◌||◌, ℤ, pos, true, false, nat_le, List, [], ◌∷◌, length, length-set, get_or, ⊎_elim, refl, ap, sym, ◌∙◌, arith}
use Rattle.std.specs.List.{list_all, list_any}
use Rattle.std.proofs.lemmas.Bool.{and_parts, cases_Bool, cases_lt, eqb-false, eqb-true, leb-true}
use Rattle.std.proofs.lemmas.List.{get_or-set_other, get_or-set_same}
use Rattle.nest_tree.specs.Form.{numbered}
use Rattle.nest_tree.specs.WellFormed.{is_number_of}
use Rattle.nest_model.specs.Instances.{with_loop}
use Rattle.nest_walk.specs.ByNumber.{with_rounds}
use Rattle.nest_walk.specs.Paths.{Round, by_number, rounds_to}
use Rattle.nest_walk.specs.Places.{numbers_of}
use Rattle.nest_walk.proofs.WalkMoves.{by_number-length}

pub with_rounds-length : (loops : List ℤ) (rounds : List Round) → length (with_rounds loops rounds) ≡ length loops
with_rounds-length loops [] = refl
with_rounds-length loops (r ∷ rounds) = length-set (with_rounds loops rounds) (r.number - 1) r.value ∙ with_rounds-length loops rounds

-- each of the first so many loops has a number in the list
pub rounds_to-numbered : (count : ℕ) (ns : List ℕ) (vs : List ℤ) (k d : ℕ) → d < k → list_all (λ (r : Round). is_number_of count r.number) (rounds_to ns vs k) ≡ true → (1 ≤ get_or ns d 0) × (get_or ns d 0 ≤ count)
rounds_to-numbered count ns vs zero d lt all = absurd (omega arith)
rounds_to-numbered count ns vs (suc k) d lt all =
    let parts = and_parts (is_number_of count (get_or ns k 0)) (list_all (λ (r : Round). is_number_of count r.number) (rounds_to ns vs k)) all in
    let here = and_parts (nat_le 1 (get_or ns k 0)) (nat_le (get_or ns k 0) count) parts.0 in
    ⊎_elim (λ h. rounds_to-numbered count ns vs k d h parts.1)
    (λ h. let same : k ≡ d = omega (arith, lt, h) in
    (omega (arith, ap (λ i. get_or ns i 0) same, leb-true 1 (get_or ns k 0) here.0), omega (arith, ap (λ i. get_or ns i 0) same, leb-true (get_or ns k 0) count here.1)))
    (cases_lt d k)

-- a loop that is written has the value that it has among these loops alone
pub with_rounds-numbered : (count : ℕ) (loops : List ℤ) (rounds : List Round) (n : ℕ) → count ≤ length loops → list_all (λ (r : Round). is_number_of count r.number) rounds ≡ true → 0 < n →
    list_any (λ k. k == n) (numbers_of rounds) ≡ true → numbered (with_rounds loops rounds) n ≡ numbered (by_number count rounds) n
with_rounds-numbered count loops [] n same all some named = absurd (let no : false ≡ true = named in cc)
with_rounds-numbered count loops (r ∷ rounds) n same all some named =
    let parts = and_parts (is_number_of count r.number) (list_all (λ (q : Round). is_number_of count q.number) rounds) all in
    let number = and_parts (nat_le 1 r.number) (nat_le r.number count) parts.0 in
    let low = leb-true 1 r.number number.0 in
    let high = leb-true r.number count number.1 in
    let wide : r.number - 1 < length (with_rounds loops rounds) = omega (arith, low, high, same, with_rounds-length loops rounds) in
    let within : r.number - 1 < length (by_number count rounds) = omega (arith, low, high, by_number-length count rounds) in
    let here = λ (h : (r.number == n) ≡ true).
    let e = eqb-true r.number n h in
    ap (λ k. get_or (with_loop (with_rounds loops rounds) r.number r.value) (k - 1) (pos 0)) (sym e)
    ∙ get_or-set_same (with_rounds loops rounds) (r.number - 1) r.value (pos 0) wide
    ∙ sym (get_or-set_same (by_number count rounds) (r.number - 1) r.value (pos 0) within)
    ∙ ap (λ k. get_or (with_loop (by_number count rounds) r.number r.value) (k - 1) (pos 0)) e in
    let there = λ (h : (r.number == n) ≡ false).
    let ne : n - 1 ≡ r.number - 1 → ⊥ = λ (e : n - 1 ≡ r.number - 1). eqb-false r.number n h (omega (arith, low, some, e)) in
    let rest : list_any (λ k. k == n) (numbers_of rounds) ≡ true = sym (ap (λ b. b || list_any (λ k. k == n) (numbers_of rounds)) h) ∙ named in
    get_or-set_other (with_rounds loops rounds) (r.number - 1) (n - 1) r.value (pos 0) ne
    ∙ with_rounds-numbered count loops rounds n same parts.1 some rest
    ∙ sym (get_or-set_other (by_number count rounds) (r.number - 1) (n - 1) r.value (pos 0) ne) in
    ⊎_elim here there (cases_Bool (r.number == n))
