-- Multiples of terms, one behind another.
use Rattle.std.proofs.Common.{◌≡◌, ℕ, suc, ◌+◌, ◌*◌, ◌<◌, ◌≤◌, ◌^◌, ◌==◌, ℤ, pos, negsuc, ◌+ℤ◌, ◌-ℤ◌, ◌*ℤ◌, Bool, true, false, List, [], ◌∷◌, ◌++◌, codes, length, get_or, drop, unsigned_abs, refl, ap, ap₂, sym, ◌∙◌, subst, arith, append_assoc, add-one, if◌then◌else◌}
use Rattle.std.proofs.Math.Seq.{drop-cons}
use Rattle.std.specs.Fmt.{decimal, signed_decimal}
use Rattle.std.specs.Int.{is_negative}
use Rattle.std.proofs.lemmas.Bool.{eqb-true, le-ltb}
use Rattle.std.proofs.lemmas.Int.{ints, unsigned_abs-mul}
use Rattle.std.proofs.lemmas.Nat.{mul-le}
use Rattle.c_expressions.specs.CExpressions.{CExpression, constant, identifier, less, minus, plus, times}
use Rattle.c_expressions.specs.Grammar.{Reads, is_constant, is_difference, is_identifier, is_minus, is_postfix, is_product, is_sum, is_term, is_unary, product}
use Rattle.c_expressions.specs.Names.{term_name}
use Rattle.c_expressions.specs.Numbers.{IsNarrow, StaysNarrow, number_at}
use Rattle.c_expressions.specs.Sums.{AppendsPart, AppendsSum, AreNear, Begun, GoesOn, IsPlain, Values, multiple_text, sign_text, size_of_terms, terms_at}
use Rattle.c_expressions.specs.declared.sum.Sum.{Sum}
use Rattle.c_expressions.specs.declared.sum.Term.{Term}
use Rattle.c_expressions.proofs.Appending.{assoc_bytes}
use Rattle.c_expressions.proofs.Spelled.{term_name_is}

-- ---- one multiple

multiple_by : Bool → ℕ → Term → CExpression
multiple_by true n t = identifier (term_name t)
multiple_by false n t = times (constant n) (identifier (term_name t))

negative_by : Bool → ℕ → Term → CExpression
negative_by true n t = minus (identifier (term_name t))
negative_by false n t = times (minus (constant n)) (identifier (term_name t))

multiple_reads : (b : Bool) (n : ℕ) (t : Term) → n < 2 ^ 63 → Reads product ((if b then [] else decimal n ++ codes "*") ++ term_name t) (multiple_by b n t)
unfolding multiple_by
multiple_reads true n t lt = is_unary (is_postfix (is_identifier (term_name_is t)))
multiple_reads false n t lt = is_product (is_unary (is_postfix (is_constant n lt))) (is_postfix (is_identifier (term_name_is t)))

negative_reads : (b : Bool) (n : ℕ) (t : Term) → n < 2 ^ 63 → Reads product (codes "-" ++ ((if b then [] else decimal n ++ codes "*") ++ term_name t)) (negative_by b n t)
unfolding negative_by
negative_reads true n t lt = is_unary (is_minus (is_identifier (term_name_is t)))
negative_reads false n t lt = is_product (is_unary (is_minus (is_constant n lt))) (is_postfix (is_identifier (term_name_is t)))

once : (x : ℤ) → x ≡ pos 1 *ℤ x
once x = omega (arith, ints)

turned : (x : ℤ) → pos 0 -ℤ x ≡ negsuc 0 *ℤ x
turned x = omega (arith, ints)

below_zero : (m : ℕ) → pos 0 -ℤ pos (suc m) ≡ negsuc m
below_zero m = omega (arith, ints)

multiple_value : (v : Values) (b : Bool) (n : ℕ) (t : Term) → (n == 1) ≡ b → number_at v (multiple_by b n t) ≡ pos n *ℤ v (term_name t)
unfolding multiple_by
multiple_value v true n t e = once (v (term_name t)) ∙ ap (λ k. pos k *ℤ v (term_name t)) (sym (eqb-true n 1 e))
multiple_value v false n t e = refl

negative_value : (v : Values) (b : Bool) (m : ℕ) (t : Term) → (suc m == 1) ≡ b → number_at v (negative_by b (suc m) t) ≡ negsuc m *ℤ v (term_name t)
unfolding negative_by
negative_value v true m t e = let none : 0 ≡ m = let is = eqb-true (suc m) 1 e in omega (arith, is) in turned (v (term_name t)) ∙ ap (λ k. negsuc k *ℤ v (term_name t)) none
negative_value v false m t e = ap (λ k. k *ℤ v (term_name t)) (below_zero m)

product_near : (c x : ℤ) → unsigned_abs x ≤ 2 ^ 32 → unsigned_abs (c *ℤ x) ≤ unsigned_abs c * 2 ^ 32
product_near c x near = let size = mul-le (unsigned_abs c) (unsigned_abs x) (unsigned_abs c) (2 ^ 32) (omega arith) near in omega (arith, unsigned_abs-mul c x, size)

multiple_narrow : (v : Values) (b : Bool) (n : ℕ) (t : Term) → (n == 1) ≡ b → AreNear v → n * 2 ^ 32 < 2 ^ 62 → StaysNarrow v (multiple_by b n t)
unfolding multiple_by
multiple_narrow v true n t e near small = tt
multiple_narrow v false n t e near small = let size = product_near (pos n) (v (term_name t)) (near t) in (tt, tt, omega (arith, size, small))

negative_narrow : (v : Values) (b : Bool) (m : ℕ) (t : Term) → (suc m == 1) ≡ b → AreNear v → suc m * 2 ^ 32 < 2 ^ 62 → StaysNarrow v (negative_by b (suc m) t)
unfolding negative_by
negative_narrow v true m t e near small = (tt, absolute (v (term_name t)) (near t))
  where
    absolute : (x : ℤ) → unsigned_abs x ≤ 2 ^ 32 → unsigned_abs (pos 0 -ℤ x) < 2 ^ 62
    absolute x le = omega (arith, ints, le)
negative_narrow v false m t e near small =
    let size = product_near (negsuc m) (v (term_name t)) (near t) in
    ((tt, ap_narrow m small), tt, subst (λ k. IsNarrow (k *ℤ v (term_name t))) (sym (below_zero m)) (omega (arith, size, small)))
  where
    ap_narrow : (m : ℕ) → suc m * 2 ^ 32 < 2 ^ 62 → IsNarrow (pos 0 -ℤ pos (suc m))
    ap_narrow m small = subst IsNarrow (sym (below_zero m)) (omega (arith, small))

-- ---- one part more

abs_sum : (a b : ℤ) (m n : ℕ) → unsigned_abs a ≤ m → unsigned_abs b ≤ n → unsigned_abs (a +ℤ b) ≤ m + n
abs_sum a b m n le le' = omega (arith, ints, le, le')

part_same : (old new : List ℕ) (f g : Values → ℤ) (room more : ℕ) → ((v : Values) → f v ≡ g v) → room ≤ more → AppendsPart old new f room → AppendsPart old new g more
part_same old new f g room more e le p = record {
  expression = p.expression;
  appends = p.appends;
  value = λ v. p.value v ∙ e v;
  narrow = λ v near. let x = p.narrow v near in (x.0, near_too (f v) (g v) (e v) x.1);
}
  where
    near_too : (a b : ℤ) → a ≡ b → unsigned_abs a ≤ room → unsigned_abs b ≤ more
    near_too a b is small = let same : unsigned_abs a ≡ unsigned_abs b = ap unsigned_abs is in omega (arith, same, small, le)

-- alone
first_part : (old new : List ℕ) (c : ℤ) (t : Term) → unsigned_abs c * 2 ^ 32 < 2 ^ 62 → new ≡ old ++ (sign_text true (is_negative c) ++ multiple_text (unsigned_abs c) t) →
    AppendsPart old new (λ v. c *ℤ v (term_name t)) (unsigned_abs c * 2 ^ 32)
first_part old new (pos n) t small e = record {
  expression = multiple_by (n == 1) n t;
  appends = record { text = multiple_text n t; appended = e ∙ ap (λ b. old ++ (sign_text true b ++ multiple_text n t)) (le-ltb n 0 (omega arith)); reads = is_term (multiple_reads (n == 1) n t (omega arith)) };
  value = λ v. multiple_value v (n == 1) n t refl;
  narrow = λ v near. (multiple_narrow v (n == 1) n t refl near small, product_near (pos n) (v (term_name t)) (near t));
}
first_part old new (negsuc m) t small e = record {
  expression = negative_by (suc m == 1) (suc m) t;
  appends = record { text = codes "-" ++ multiple_text (suc m) t; appended = e; reads = is_term (negative_reads (suc m == 1) (suc m) t (omega arith)) };
  value = λ v. negative_value v (suc m == 1) m t refl;
  narrow = λ v near. (negative_narrow v (suc m == 1) m t refl near small, product_near (negsuc m) (v (term_name t)) (near t));
}

-- behind what there is: a sum or a difference with what reads as a product
longer : (old before new x : List ℕ) (y : List ℕ) (z : List ℕ) → before ≡ old ++ x → new ≡ before ++ (y ++ z) → new ≡ old ++ ((x ++ y) ++ z)
longer old before new x y z e f = f ∙ ap (λ w. w ++ (y ++ z)) e ∙ regroup
  where
    regroup : (old ++ x) ++ (y ++ z) ≡ old ++ ((x ++ y) ++ z)
    regroup = simp append_assoc

sum_part : (old before new text : List ℕ) (b : CExpression) (part more : Values → ℤ) (room size : ℕ) → room + size < 2 ^ 62 → AppendsPart old before part room → Reads product text b → new ≡ before ++ (codes " + " ++ text) →
    ((v : Values) → number_at v b ≡ more v) → ((v : Values) → AreNear v → StaysNarrow v b × (unsigned_abs (more v) ≤ size)) → AppendsPart old new (λ v. part v +ℤ more v) (room + size)
sum_part old before new text b part more room size small p reads e value narrow = record {
  expression = plus p.expression b;
  appends = record { text = p.appends.text ++ codes " + " ++ text; appended = longer old before new p.appends.text (codes " + ") text p.appends.appended e; reads = is_sum p.appends.reads reads };
  value = values;
  narrow = λ v near.
      let x = p.narrow v near in
      let y = narrow v near in
      let within = abs_sum (part v) (more v) room size x.1 y.1 in
      ((x.0, y.0, subst IsNarrow (sym (values v)) (omega (arith, within, small))), within);
}
  where
    values : (v : Values) → number_at v (plus p.expression b) ≡ part v +ℤ more v
    values v = ap₂ (λ a c. a +ℤ c) (p.value v) (value v)

difference_part : (old before new text : List ℕ) (b : CExpression) (part more : Values → ℤ) (room size : ℕ) → room + size < 2 ^ 62 → AppendsPart old before part room → Reads product text b → new ≡ before ++ (codes " - " ++ text) →
    ((v : Values) → pos 0 -ℤ number_at v b ≡ more v) → ((v : Values) → AreNear v → StaysNarrow v b × (unsigned_abs (more v) ≤ size)) → AppendsPart old new (λ v. part v +ℤ more v) (room + size)
difference_part old before new text b part more room size small p reads e value narrow = record {
  expression = less p.expression b;
  appends = record { text = p.appends.text ++ codes " - " ++ text; appended = longer old before new p.appends.text (codes " - ") text p.appends.appended e; reads = is_difference p.appends.reads reads };
  value = values;
  narrow = λ v near.
      let x = p.narrow v near in
      let y = narrow v near in
      let within = abs_sum (part v) (more v) room size x.1 y.1 in
      ((x.0, y.0, subst IsNarrow (sym (values v)) (omega (arith, within, small))), within);
}
  where
    added : (a b c : ℤ) → pos 0 -ℤ b ≡ c → a -ℤ b ≡ a +ℤ c
    added a b c h = omega (arith, ints, h)

    values : (v : Values) → number_at v (less p.expression b) ≡ part v +ℤ more v
    values v = ap (λ a. a -ℤ number_at v b) (p.value v) ∙ added (part v) (number_at v b) (more v) (value v)

turned_product : (m : ℕ) (x : ℤ) → pos 0 -ℤ pos (suc m) *ℤ x ≡ negsuc m *ℤ x
turned_product m x = omega (arith, ints)

next_part : (before new : List ℕ) (c : ℤ) (t : Term) → new ≡ before ++ (sign_text false (is_negative c) ++ multiple_text (unsigned_abs c) t) →
    (old : List ℕ) (part : Values → ℤ) (room : ℕ) → room + unsigned_abs c * 2 ^ 32 < 2 ^ 62 → AppendsPart old before part room →
    AppendsPart old new (λ v. part v +ℤ c *ℤ v (term_name t)) (room + unsigned_abs c * 2 ^ 32)
next_part before new (pos n) t e old part room small p =
    sum_part old before new (multiple_text n t) (multiple_by (n == 1) n t) part (λ v. pos n *ℤ v (term_name t)) room (n * 2 ^ 32) small p (multiple_reads (n == 1) n t (omega arith))
    (e ∙ ap (λ b. before ++ (sign_text false b ++ multiple_text n t)) (le-ltb n 0 (omega arith)))
    (λ v. multiple_value v (n == 1) n t refl)
    (λ v near. (multiple_narrow v (n == 1) n t refl near (omega arith), product_near (pos n) (v (term_name t)) (near t)))
next_part before new (negsuc m) t e old part room small p =
    difference_part old before new (multiple_text (suc m) t) (multiple_by (suc m == 1) (suc m) t) part (λ v. negsuc m *ℤ v (term_name t)) room (suc m * 2 ^ 32) small p (multiple_reads (suc m == 1) (suc m) t (omega arith)) e
    (λ v. ap (λ y. pos 0 -ℤ y) (multiple_value v (suc m == 1) (suc m) t refl) ∙ turned_product m (v (term_name t)))
    (λ v near. (multiple_narrow v (suc m == 1) (suc m) t refl near (omega arith), product_near (negsuc m) (v (term_name t)) (near t)))

nothing_first : (a b : ℤ) → a ≡ pos 0 → b ≡ a +ℤ b
nothing_first a b e = omega (arith, ints, e)

pub goes_on : (is_first : Bool) (before new : List ℕ) (c : ℤ) (t : Term) → new ≡ before ++ (sign_text is_first (is_negative c) ++ multiple_text (unsigned_abs c) t) →
    GoesOn before is_first new false (λ v. c *ℤ v (term_name t)) (unsigned_abs c * 2 ^ 32)
goes_on true before new c t e old part room small begun =
    part_same old new (λ v. c *ℤ v (term_name t)) (λ v. part v +ℤ c *ℤ v (term_name t)) (unsigned_abs c * 2 ^ 32) (room + unsigned_abs c * 2 ^ 32)
    (λ v. nothing_first (part v) (c *ℤ v (term_name t)) (begun.1 v)) (omega arith)
    (first_part old new c t (omega (arith, small)) (e ∙ ap (λ w. w ++ (sign_text true (is_negative c) ++ multiple_text (unsigned_abs c) t)) begun.0))
goes_on false before new c t e old part room small begun = next_part before new c t e old part room small begun

-- nothing is appended
begun_same : (is_first : Bool) (old now : List ℕ) (f g : Values → ℤ) (room more : ℕ) → ((v : Values) → f v ≡ g v) → room ≤ more → Begun old now is_first f room → Begun old now is_first g more
begun_same true old now f g room more e le b = (b.0, λ v. sym (e v) ∙ b.1 v)
begun_same false old now f g room more e le b = part_same old now f g room more e le b

pub stays : (is_first : Bool) (before new : List ℕ) (more : Values → ℤ) (size : ℕ) → new ≡ before → ((v : Values) → more v ≡ pos 0) → GoesOn before is_first new is_first more size
stays is_first before new more size e none old part room small begun =
    subst (λ now. Begun old now is_first (λ v. part v +ℤ more v) (room + size)) (sym e) (begun_same is_first old before part (λ v. part v +ℤ more v) room (room + size) (λ v. nothing_last (part v) (more v) (none v)) (omega arith) begun)
  where
    nothing_last : (a b : ℤ) → b ≡ pos 0 → a ≡ a +ℤ b
    nothing_last a b e = omega (arith, ints, e)

pub no_times : (c x : ℤ) → c ≡ pos 0 → c *ℤ x ≡ pos 0
no_times c x e = ap (λ k. k *ℤ x) e ∙ zero_times x
  where
    zero_times : (x : ℤ) → pos 0 *ℤ x ≡ pos 0
    zero_times x = omega (arith, ints)

-- ---- the constant

constant_first : (old new : List ℕ) (k : ℤ) → unsigned_abs k < 2 ^ 62 → new ≡ old ++ signed_decimal k → AppendsPart old new (λ v. k) (unsigned_abs k)
constant_first old new (pos n) small e = record {
  expression = constant n;
  appends = record { text = decimal n; appended = e; reads = is_term (is_unary (is_postfix (is_constant n (omega arith)))) };
  value = λ v. refl;
  narrow = λ v near. (tt, omega arith);
}
constant_first old new (negsuc m) small e = record {
  expression = minus (constant (suc m));
  appends = record { text = codes "-" ++ decimal (suc m); appended = e; reads = is_term (is_unary (is_minus (is_constant (suc m) (omega arith)))) };
  value = λ v. below_zero m;
  narrow = λ v near. ((tt, subst IsNarrow (sym (below_zero m)) (omega (arith, small))), omega arith);
}

constant_next : (before new : List ℕ) (k : ℤ) → new ≡ before ++ (sign_text false (is_negative k) ++ decimal (unsigned_abs k)) →
    (old : List ℕ) (part : Values → ℤ) (room : ℕ) → room + unsigned_abs k < 2 ^ 62 → AppendsPart old before part room → AppendsPart old new (λ v. part v +ℤ k) (room + unsigned_abs k)
constant_next before new (pos n) e old part room small p =
    sum_part old before new (decimal n) (constant n) part (λ v. pos n) room n small p (is_unary (is_postfix (is_constant n (omega arith)))) (e ∙ ap (λ b. before ++ (sign_text false b ++ decimal n)) (le-ltb n 0 (omega arith)))
    (λ v. refl) (λ v near. (tt, omega arith))
constant_next before new (negsuc m) e old part room small p =
    difference_part old before new (decimal (suc m)) (constant (suc m)) part (λ v. negsuc m) room (suc m) small p (is_unary (is_postfix (is_constant (suc m) (omega arith)))) e (λ v. below_zero m) (λ v near. (tt, omega arith))

pub constant_alone : (before new : List ℕ) (k : ℤ) → new ≡ before ++ signed_decimal k → GoesOn before true new false (λ v. k) (unsigned_abs k)
constant_alone before new k e old part room small begun =
    part_same old new (λ v. k) (λ v. part v +ℤ k) (unsigned_abs k) (room + unsigned_abs k) (λ v. nothing_first (part v) k (begun.1 v)) (omega arith)
    (constant_first old new k (omega (arith, small)) (e ∙ ap (λ w. w ++ signed_decimal k) begun.0))

pub constant_behind : (before new : List ℕ) (k : ℤ) → new ≡ before ++ (sign_text false (is_negative k) ++ decimal (unsigned_abs k)) → GoesOn before false new false (λ v. k) (unsigned_abs k)
constant_behind before new k e old part room small begun = constant_next before new k e old part room small begun

-- ---- sign by sign

pub multiple_put : (is_first : Bool) (before middle new : List ℕ) (c : ℤ) (t : Term) (s : Bool) (n : ℕ) → s ≡ is_negative c → n ≡ unsigned_abs c → middle ≡ before ++ sign_text is_first s → new ≡ middle ++ multiple_text n t →
    GoesOn before is_first new false (λ v. c *ℤ v (term_name t)) (unsigned_abs c * 2 ^ 32)
multiple_put is_first before middle new c t s n e f g h =
    goes_on is_first before new c t
    (h ∙ ap (λ z. z ++ multiple_text n t) g ∙ assoc_bytes before (sign_text is_first s) (multiple_text n t) ∙ ap₂ (λ b m. before ++ (sign_text is_first b ++ multiple_text m t)) e f)

pub constant_put : (before middle new : List ℕ) (k : ℤ) (s : Bool) (n : ℕ) → s ≡ is_negative k → n ≡ unsigned_abs k → middle ≡ before ++ sign_text false s → new ≡ middle ++ decimal n → GoesOn before false new false (λ v. k) (unsigned_abs k)
constant_put before middle new k s n e f g h =
    constant_behind before new k (h ∙ ap (λ z. z ++ decimal n) g ∙ assoc_bytes before (sign_text false s) (decimal n) ∙ ap₂ (λ b m. before ++ (sign_text false b ++ decimal m)) e f)

-- ---- all parts

pub record PlainSoFar (start now : List ℕ) (is_first : Bool) (terms rest : List (Term × ℤ)) : Type 0 where
  pub part : Values → ℤ
  pub room : ℕ
  pub begun : Begun start now is_first part room
  pub left : (v : Values) → part v +ℤ terms_at v rest ≡ terms_at v terms
  pub small : room + size_of_terms rest ≤ size_of_terms terms

pub terms_narrow : (s : Sum) (terms : List (Term × ℤ)) → terms ≡ s.terms.items → IsPlain s → size_of_terms terms < 2 ^ 62
terms_narrow s terms e plain = let small = plain.small in let same = ap size_of_terms e in omega (arith, small, same)

pub plain_none : (start : List ℕ) (terms : List (Term × ℤ)) → PlainSoFar start start true terms terms
plain_none start terms = record {
  part = λ v. pos 0;
  room = 0;
  begun = (refl, λ v. refl);
  left = λ v. zero_first (terms_at v terms);
  small = omega arith;
}
  where
    zero_first : (b : ℤ) → pos 0 +ℤ b ≡ b
    zero_first b = omega (arith, ints)

plain_next_at : (start now new : List ℕ) (is_first first : Bool) (terms rest : List (Term × ℤ)) (x : Term × ℤ) → size_of_terms terms < 2 ^ 62 → PlainSoFar start now is_first terms (x ∷ rest) →
    GoesOn now is_first new first (λ v. x.1 *ℤ v (term_name x.0)) (unsigned_abs x.1 * 2 ^ 32) → PlainSoFar start new first terms rest
plain_next_at start now new is_first first terms rest x narrow s more = record {
  part = λ v. s.part v +ℤ x.1 *ℤ v (term_name x.0);
  room = s.room + unsigned_abs x.1 * 2 ^ 32;
  begun = let small = s.small in more start s.part s.room (omega (arith, small, narrow)) s.begun;
  left = λ v. assoc (s.part v) (x.1 *ℤ v (term_name x.0)) (terms_at v rest) ∙ s.left v;
  small = let small = s.small in omega (arith, small);
}
  where
    assoc : (a b c : ℤ) → a +ℤ b +ℤ c ≡ a +ℤ (b +ℤ c)
    assoc a b c = omega (arith, ints)

pub plain_next : (start now new : List ℕ) (is_first first : Bool) (terms : List (Term × ℤ)) (i : ℕ) (d : Term × ℤ) → size_of_terms terms < 2 ^ 62 → i < length terms → PlainSoFar start now is_first terms (drop i terms) →
    GoesOn now is_first new first (λ v. (get_or terms i d).1 *ℤ v (term_name (get_or terms i d).0)) (unsigned_abs (get_or terms i d).1 * 2 ^ 32) → PlainSoFar start new first terms (drop (i + 1) terms)
plain_next start now new is_first first terms i d narrow lt s more =
    rw add-one (plain_next_at start now new is_first first terms (drop (suc i) terms) (get_or terms i d) narrow (subst (λ ts. PlainSoFar start now is_first terms ts) (drop-cons terms i d lt) s) more)

pub plain_all : (s : Sum) (start now new : List ℕ) (is_first : Bool) (rest : List (Term × ℤ)) → IsPlain s → rest ≡ [] → PlainSoFar start now is_first s.terms.items rest →
    GoesOn now is_first new false (λ v. s.constant) (unsigned_abs s.constant) → AppendsSum s start new
plain_all s start now new is_first rest plain none so_far more = record {
  expression = whole.expression;
  appends = whole.appends;
  comes = λ all u. record {
    value = λ v least fits. whole.value v ∙ order (so_far.part v) s.constant (terms_at v rest) (terms_at v s.terms.items) (so_far.left v) (nothing v) ∙ u.exact plain.exact v;
    narrow = λ v near. (whole.narrow v near).0;
  };
}
  where
    nothing : (v : Values) → terms_at v rest ≡ pos 0
    nothing v = ap (terms_at v) none

    order : (a k r t : ℤ) → a +ℤ r ≡ t → r ≡ pos 0 → a +ℤ k ≡ k +ℤ t
    order a k r t h z = omega (arith, ints, h, z)

    whole : AppendsPart start new (λ v. so_far.part v +ℤ s.constant) (so_far.room + unsigned_abs s.constant)
    whole = let small = so_far.small in let narrow = plain.small in more start so_far.part so_far.room (omega (arith, small, narrow)) so_far.begun
