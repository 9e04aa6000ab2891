-- Sums of terms at values: with a sign, one behind another, and those of a form inside loops.
use Rattle.std.proofs.Common.{◌≡◌, ℕ, ◌+◌, ◌-◌, ◌==◌, ◌&&◌, ◌||◌, nat_le, ℤ, pos, ◌+ℤ◌, ◌*ℤ◌, neg_ℤ, Bool, true, false, List, [], ◌∷◌, ◌++◌, map, get_or, length, if◌then◌else◌, ⊎_elim, refl, ap, sym, ◌∙◌, arith}
use Rattle.std.specs.List.{list_all, list_any}
use Rattle.std.proofs.lemmas.Bool.{and_parts, cases_Bool, eqb-true, leb-true}
use Rattle.std.proofs.lemmas.Int.{ints}
use Rattle.std.proofs.lemmas.List.{get_or_append_left}
use Rattle.std.proofs.Math.IntN.{zero-*ℤ, +ℤ_invl}
use Rattle.std.proofs.Math.Seq.{get_or-append_seam}
use Rattle.list_lemmas.proofs.Integers.{add-mul}
use Rattle.nest_tree.specs.Form.{Form, dot, form_value, is_form, numbered}
use Rattle.nest_tree.specs.Tree.{Head}
use Rattle.nest_tree.specs.WellFormed.{is_number_of, names_only}
use Rattle.nest_rows.specs.declared.constraint.Sign.{Sign}
use Rattle.nest_rows.specs.declared.constraint.Sign.TheVariants.{Plus, Minus}
use Rattle.nest_rows.specs.Places.{AreLaid, place_of, terms_of}
use Rattle.nest_rows.specs.Signs.{signed, with_sign}

pub neg-mul : (a b : ℤ) → neg_ℤ a *ℤ b ≡ neg_ℤ (a *ℤ b)
neg-mul a b =
    let none = sym (add-mul (neg_ℤ a) a b) ∙ ap (λ z. z *ℤ b) (+ℤ_invl a) ∙ zero-*ℤ b in
    omega (arith, ints, none)

pub dot-signed : (sign : Sign) (terms : List (ℕ × ℤ)) (xs : List ℤ) → dot (with_sign sign terms) xs ≡ signed sign (dot terms xs)
dot-signed Plus [] xs = refl
dot-signed Plus (t ∷ terms) xs = ap (λ z. t.1 *ℤ numbered xs t.0 +ℤ z) (dot-signed Plus terms xs)
dot-signed Minus [] xs = refl
dot-signed Minus (t ∷ terms) xs = omega (arith, ints, dot-signed Minus terms xs, neg-mul t.1 (numbered xs t.0))

pub dot-append : (ts us : List (ℕ × ℤ)) (xs : List ℤ) → dot (ts ++ us) xs ≡ dot ts xs +ℤ dot us xs
dot-append [] us xs = omega (arith, ints)
dot-append (t ∷ ts) us xs = omega (arith, ints, dot-append ts us xs)

-- the named constants have their values
pub record AreConstants (values params : List ℤ) : Type 0 where
  pub same : (n : ℕ) → is_number_of (length params) n ≡ true → numbered values n ≡ numbered params n

pub constants-in-front : (params rest : List ℤ) → AreConstants (params ++ rest) params
constants-in-front params rest = record {
  same = λ n number.
      let parts = and_parts (nat_le 1 n) (nat_le n (length params)) number in
      get_or_append_left params rest (pos 0) (n - 1) (omega (arith, leb-true 1 n parts.0, leb-true n (length params) parts.1));
}

-- the value behind others, by its number
pub at-seam : (before : List ℤ) (v : ℤ) (rest : List ℤ) → numbered (before ++ v ∷ rest) (length before + 1) ≡ v
at-seam before v rest =
    let place : length before + 1 - 1 ≡ length before = omega arith in
    ap (λ n. get_or (before ++ v ∷ rest) n (pos 0)) place ∙ get_or-append_seam before v rest (pos 0)

pub dot-constants : (values params : List ℤ) (pairs : List (ℕ × ℤ)) → AreConstants values params → list_all (λ p. is_number_of (length params) p.0) pairs ≡ true → dot pairs values ≡ dot pairs params
dot-constants values params [] are named = refl
dot-constants values params (p ∷ pairs) are named =
    let parts = and_parts (is_number_of (length params) p.0) (list_all (λ (p : ℕ × ℤ). is_number_of (length params) p.0) pairs) named in
    ap (λ z. p.1 *ℤ z +ℤ dot pairs values) (are.same p.0 parts.0) ∙ ap (λ z. p.1 *ℤ numbered params p.0 +ℤ z) (dot-constants values params pairs are parts.1)

-- the numbers of the loops
abbrev pub numbers : List Head → List ℕ
numbers heads = map (λ (h : Head). h.number) heads

pub laid-value : (values : List ℤ) (first : ℕ) (loops : List ℤ) (heads : List Head) (ns : List ℕ) (n : ℕ) → AreLaid values first loops heads ns → list_any (λ l. l == n) (numbers heads) ≡ true → numbered values (place_of first heads n) ≡ numbered loops n
laid-value values first loops [] ns n are named = absurd (let no : false ≡ true = named in cc)
laid-value values first loops (h ∷ heads) [] n are named = absurd are
laid-value values first loops (h ∷ heads) (k ∷ ns) n are named =
    let place = λ (b : Bool). numbered values (if b then first else place_of (first + 2) heads n) in
    ⊎_elim (λ e. ap place e ∙ are.0 ∙ ap (numbered loops) (eqb-true h.number n e))
    (λ e. ap place e ∙ laid-value values (first + 2) loops heads ns n are.2 (sym (ap (λ b. b || list_any (λ l. l == n) (numbers heads)) e) ∙ named)) (cases_Bool (h.number == n))

dot-loops : (values : List ℤ) (first : ℕ) (loops : List ℤ) (heads : List Head) (ns : List ℕ) (pairs : List (ℕ × ℤ)) → AreLaid values first loops heads ns → list_all (λ p. list_any (λ l. l == p.0) (numbers heads)) pairs ≡ true →
    dot (map (λ p. (place_of first heads p.0, p.1)) pairs) values ≡ dot pairs loops
dot-loops values first loops heads ns [] are named = refl
dot-loops values first loops heads ns (p ∷ pairs) are named =
    let parts = and_parts (list_any (λ l. l == p.0) (numbers heads)) (list_all (λ (p : ℕ × ℤ). list_any (λ l. l == p.0) (numbers heads)) pairs) named in
    ap (λ z. p.1 *ℤ z +ℤ dot (map (λ (p : ℕ × ℤ). (place_of first heads p.0, p.1)) pairs) values) (laid-value values first loops heads ns p.0 are parts.0)
    ∙ ap (λ z. p.1 *ℤ numbered loops p.0 +ℤ z) (dot-loops values first loops heads ns pairs are parts.1)

-- a form of these loops, without its constant
pub dot-form : (values : List ℤ) (first : ℕ) (loops : List ℤ) (heads : List Head) (ns : List ℕ) (params : List ℤ) (f : Form) → AreLaid values first loops heads ns → AreConstants values params → names_only (length params) (numbers heads) f ≡ true →
    f.constant +ℤ dot (terms_of first heads f) values ≡ form_value f loops params
dot-form values first loops heads ns params f are constants named =
    let last = and_parts (is_form f && list_all (λ (p : ℕ × ℤ). list_any (λ l. l == p.0) (numbers heads)) f.loops) (list_all (λ (p : ℕ × ℤ). is_number_of (length params) p.0) f.params) named in
    let first_part = and_parts (is_form f) (list_all (λ (p : ℕ × ℤ). list_any (λ l. l == p.0) (numbers heads)) f.loops) last.0 in
    let split = dot-append (map (λ (p : ℕ × ℤ). (place_of first heads p.0, p.1)) f.loops) f.params values in
    omega (arith, ints, split, dot-loops values first loops heads ns f.loops are first_part.1, dot-constants values params f.params constants last.1)
