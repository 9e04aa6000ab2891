-- What sums add up to, in words and exactly.
use Rattle.std.proofs.Common.{◌≡◌, ℕ, zero, suc, ◌+◌, ◌<◌, ℤ, pos, negsuc, ◌+ℤ◌, ◌-ℤ◌, ◌*ℤ◌, List, [], ◌∷◌, ◌++◌, length, get_or, drop, set, Some, IsTrue, FitsSigned, w64, refl, ap, ap₂, sym, ◌∙◌, arith, slice_get, add-one}
use Rattle.std.proofs.Math.Seq.{drop-cons}
use Rattle.std.proofs.lemmas.Int.{ints, int_wrap-add_left, int_wrap-add_right, int_wrap-mul_left, int_wrap_fits}
use Rattle.std.proofs.Math.IntN.{*ℤ_comm, *ℤ-zero}
use Rattle.list_lemmas.proofs.Integers.{add-mul, mul-add, mul_assoc_ℤ}
use Rattle.nest_tree.specs.Form.{Form, dot, numbered}
use Rattle.nest_tree.specs.Values.{wrapped}
use Rattle.c_expressions.specs.Names.{loop_name, term_name}
use Rattle.c_expressions.specs.Sums.{Adds, SumsUp, Values, form_at, loops_at, place_at, terms_at, total}
use Rattle.c_expressions.specs.declared.sum.Sum.{Sum}
use Rattle.c_expressions.specs.declared.sum.Term.{Term}

pub exact_is_wrapped : (r z : ℤ) → FitsSigned w64 z → r ≡ z → r ≡ wrapped z
exact_is_wrapped r z fits e = e ∙ sym (int_wrap_fits w64 z fits)

pub none_sums_up : (s : Sum) → s.constant ≡ pos 0 → s.terms.items ≡ [] → SumsUp s (λ v. pos 0)
none_sums_up s e f = record {
  words = λ v. ap wrapped (none v);
  exact = λ h v. none v;
}
  where
    none : (v : Values) → total v s ≡ pos 0
    none v = ap₂ (λ c ts. c +ℤ terms_at v ts) e f

-- ---- a number

number_moves : (k p z t : ℤ) → p ≡ wrapped z → wrapped (wrapped (k +ℤ p) +ℤ t) ≡ wrapped (k +ℤ t +ℤ z)
number_moves k p z t e =
    let first : k +ℤ p +ℤ t ≡ p +ℤ (k +ℤ t) = omega (arith, ints) in
    let last : z +ℤ (k +ℤ t) ≡ k +ℤ t +ℤ z = omega (arith, ints) in
    int_wrap-add_left w64 (k +ℤ p) t ∙ ap wrapped first ∙ ap (λ y. wrapped (y +ℤ (k +ℤ t))) e ∙ int_wrap-add_left w64 z (k +ℤ t) ∙ ap wrapped last

pub adds_number : (old new : Sum) (p z : ℤ) → p ≡ wrapped z → new.constant ≡ wrapped (old.constant +ℤ p) → new.terms.items ≡ old.terms.items →
    (IsTrue new.is_exact → IsTrue old.is_exact × (p ≡ z) × (new.constant ≡ old.constant +ℤ p)) → Adds old new (λ v. z)
adds_number old new p z e f same exact = record {
  words = λ v. ap₂ (λ c ts. wrapped (c +ℤ terms_at v ts)) f same ∙ number_moves old.constant p z (terms_at v old.terms.items) e;
  exact = λ h. let x = exact h in (x.0, λ v. ap₂ (λ c ts. c +ℤ terms_at v ts) (x.2 ∙ ap (λ y. old.constant +ℤ y) x.1) same ∙ moved old.constant z (terms_at v old.terms.items));
}
  where
    moved : (k z t : ℤ) → k +ℤ z +ℤ t ≡ k +ℤ t +ℤ z
    moved k z t = omega (arith, ints)

-- ---- a multiple of a term

terms_at-append : (v : Values) (xs : List (Term × ℤ)) (t : Term) (k : ℤ) → terms_at v (xs ++ (t, k) ∷ []) ≡ terms_at v xs +ℤ k *ℤ v (term_name t)
terms_at-append v [] t k = omega (arith, ints)
terms_at-append v (x ∷ xs) t k = let rest = terms_at-append v xs t k in omega (arith, ints, rest)

pub adds_pushed : (old new : Sum) (t : Term) (k : ℤ) → new.constant ≡ old.constant → new.terms.items ≡ old.terms.items ++ (t, k) ∷ [] → (IsTrue new.is_exact → IsTrue old.is_exact) →
    Adds old new (λ v. k *ℤ v (term_name t))
adds_pushed old new t k e f exact = record {
  words = λ v. ap wrapped (more v);
  exact = λ h. (exact h, more);
}
  where
    assoc : (c x y : ℤ) → c +ℤ (x +ℤ y) ≡ c +ℤ x +ℤ y
    assoc c x y = omega (arith, ints)

    more : (v : Values) → total v new ≡ total v old +ℤ k *ℤ v (term_name t)
    more v = ap₂ (λ c ts. c +ℤ terms_at v ts) e f ∙ ap (λ y. old.constant +ℤ y) (terms_at-append v old.terms.items t k) ∙ assoc old.constant (terms_at v old.terms.items) (k *ℤ v (term_name t))

-- another coefficient
terms_at-set : (v : Values) (xs : List (Term × ℤ)) (i : ℕ) (t : Term) (k m : ℤ) → slice_get xs i ≡ Some (t, k) → terms_at v (set xs i (t, m)) +ℤ k *ℤ v (term_name t) ≡ terms_at v xs +ℤ m *ℤ v (term_name t)
terms_at-set v [] i t k m e = cc
terms_at-set v (x ∷ xs) zero t k m e = let is : x ≡ (t, k) = cc in ap (λ y. m *ℤ v (term_name t) +ℤ terms_at v xs +ℤ y.1 *ℤ v (term_name y.0)) (sym is) ∙ turned (m *ℤ v (term_name t)) (terms_at v xs) (x.1 *ℤ v (term_name x.0))
  where
    turned : (a b c : ℤ) → a +ℤ b +ℤ c ≡ c +ℤ b +ℤ a
    turned a b c = omega (arith, ints)
terms_at-set v (x ∷ xs) (suc i) t k m e = next (x.1 *ℤ v (term_name x.0)) (terms_at v (set xs i (t, m))) (k *ℤ v (term_name t)) (terms_at v xs) (m *ℤ v (term_name t)) (terms_at-set v xs i t k m e)
  where
    next : (a b c d f : ℤ) → b +ℤ c ≡ d +ℤ f → a +ℤ b +ℤ c ≡ a +ℤ d +ℤ f
    next a b c d f h = omega (arith, ints, h)

pub adds_up : (old new : Sum) (i : ℕ) (t : Term) (before k m : ℤ) → slice_get old.terms.items i ≡ Some (t, before) → m ≡ wrapped (before +ℤ k) → new.constant ≡ old.constant → new.terms.items ≡ set old.terms.items i (t, m) →
    (IsTrue new.is_exact → IsTrue old.is_exact × (m ≡ before +ℤ k)) → Adds old new (λ v. k *ℤ v (term_name t))
adds_up old new i t before k m at wraps e f exact = record {
  words = λ v. ap wrapped (is v) ∙ words v;
  exact = λ h. let x = exact h in (x.0, λ v. is v ∙ ap (λ y. y *ℤ v (term_name t) +ℤ (total v old -ℤ before *ℤ v (term_name t))) x.1 ∙ same v);
}
  where
    solved : (c x b y m : ℤ) → x +ℤ b ≡ y +ℤ m → c +ℤ x ≡ m +ℤ (c +ℤ y -ℤ b)
    solved c x b y m h = omega (arith, ints, h)

    is : (v : Values) → total v new ≡ m *ℤ v (term_name t) +ℤ (total v old -ℤ before *ℤ v (term_name t))
    is v = ap₂ (λ c ts. c +ℤ terms_at v ts) e f ∙ solved old.constant (terms_at v (set old.terms.items i (t, m))) (before *ℤ v (term_name t)) (terms_at v old.terms.items) (m *ℤ v (term_name t)) (terms_at-set v old.terms.items i t before m at)

    shared : (b k w o : ℤ) → (b +ℤ k) *ℤ w +ℤ (o -ℤ b *ℤ w) ≡ o +ℤ k *ℤ w
    shared b k w o = let spread = add-mul b k w in omega (arith, ints, spread)

    same : (v : Values) → (before +ℤ k) *ℤ v (term_name t) +ℤ (total v old -ℤ before *ℤ v (term_name t)) ≡ total v old +ℤ k *ℤ v (term_name t)
    same v = shared before k (v (term_name t)) (total v old)

    unwrapped : (z w x : ℤ) → wrapped (wrapped z *ℤ w +ℤ x) ≡ wrapped (z *ℤ w +ℤ x)
    unwrapped z w x = sym (int_wrap-add_left w64 (wrapped z *ℤ w) x) ∙ ap (λ y. wrapped (y +ℤ x)) (int_wrap-mul_left w64 z w) ∙ int_wrap-add_left w64 (z *ℤ w) x

    words : (v : Values) → wrapped (m *ℤ v (term_name t) +ℤ (total v old -ℤ before *ℤ v (term_name t))) ≡ wrapped (total v old +ℤ k *ℤ v (term_name t))
    words v = ap (λ y. wrapped (y *ℤ v (term_name t) +ℤ (total v old -ℤ before *ℤ v (term_name t)))) wraps ∙ unwrapped (before +ℤ k) (v (term_name t)) (total v old -ℤ before *ℤ v (term_name t)) ∙ ap wrapped (same v)

-- ---- one behind another

pub adds_same : (old new : Sum) (f g : Values → ℤ) → ((v : Values) → f v ≡ g v) → Adds old new f → Adds old new g
adds_same old new f g e a = record {
  words = λ v. a.words v ∙ ap (λ y. wrapped (total v old +ℤ y)) (e v);
  exact = λ h. ((a.exact h).0, λ v. (a.exact h).1 v ∙ ap (λ y. total v old +ℤ y) (e v));
}

-- a product of which a part was wrapped on the way
pub adds_wrapped : (old middle new : Sum) (p z : ℤ) (g : Values → ℤ) → p ≡ wrapped z → middle.constant ≡ old.constant → middle.terms ≡ old.terms →
    (IsTrue middle.is_exact → IsTrue old.is_exact × (p ≡ z)) → Adds middle new (λ v. p *ℤ g v) → Adds old new (λ v. z *ℤ g v)
adds_wrapped old middle new p z g e c t exact a = record {
  words = λ v. a.words v ∙ ap₂ (λ x y. wrapped (x +ℤ y *ℤ g v)) (sames v) e ∙ unwrapped (total v old) z (g v);
  exact = λ h. let x = a.exact h in let y = exact x.0 in (y.0, λ v. x.1 v ∙ ap₂ (λ s k. s +ℤ k *ℤ g v) (sames v) y.1);
}
  where
    sames : (v : Values) → total v middle ≡ total v old
    sames v = ap₂ (λ k ts. k +ℤ terms_at v (ts.items)) c t

    unwrapped : (x z w : ℤ) → wrapped (x +ℤ wrapped z *ℤ w) ≡ wrapped (x +ℤ z *ℤ w)
    unwrapped x z w = sym (int_wrap-add_right w64 x (wrapped z *ℤ w)) ∙ ap (λ y. wrapped (x +ℤ y)) (int_wrap-mul_left w64 z w) ∙ int_wrap-add_right w64 x (z *ℤ w)

-- what is added so far, and what is left
pub record Left (old now : Sum) (rest all : Values → ℤ) : Type 0 where
  pub words : (v : Values) → wrapped (total v now +ℤ rest v) ≡ wrapped (total v old +ℤ all v)
  pub exact : IsTrue now.is_exact → IsTrue old.is_exact × ((v : Values) → total v now +ℤ rest v ≡ total v old +ℤ all v)

pub left_all : (s : Sum) (all : Values → ℤ) → Left s s all all
left_all s all = record { words = λ v. refl; exact = λ h. (h, λ v. refl) }

pub left_next : (old now next : Sum) (rest more rest' all : Values → ℤ) → Left old now rest all → Adds now next more → ((v : Values) → rest v ≡ more v +ℤ rest' v) → Left old next rest' all
left_next old now next rest more rest' all l a e = record {
  words = λ v. sym (int_wrap-add_left w64 (total v next) (rest' v)) ∙ ap (λ y. wrapped (y +ℤ rest' v)) (a.words v) ∙ int_wrap-add_left w64 (total v now +ℤ more v) (rest' v) ∙ ap wrapped (joined v) ∙ l.words v;
  exact = λ h. let x = a.exact h in let y = l.exact x.0 in (y.0, λ v. ap (λ z. z +ℤ rest' v) (x.1 v) ∙ joined v ∙ y.1 v);
}
  where
    assoc : (a b c : ℤ) → a +ℤ b +ℤ c ≡ a +ℤ (b +ℤ c)
    assoc a b c = omega (arith, ints)

    joined : (v : Values) → total v now +ℤ more v +ℤ rest' v ≡ total v now +ℤ rest v
    joined v = assoc (total v now) (more v) (rest' v) ∙ ap (λ y. total v now +ℤ y) (sym (e v))

pub left_none : (old now : Sum) (rest all : Values → ℤ) → Left old now rest all → ((v : Values) → rest v ≡ pos 0) → Adds old now all
left_none old now rest all l e = record {
  words = λ v. ap wrapped (nothing v) ∙ l.words v;
  exact = λ h. let x = l.exact h in (x.0, λ v. nothing v ∙ x.1 v);
}
  where
    zero_more : (a : ℤ) → a ≡ a +ℤ pos 0
    zero_more a = omega (arith, ints)

    nothing : (v : Values) → total v now ≡ total v now +ℤ rest v
    nothing v = zero_more (total v now) ∙ ap (λ y. total v now +ℤ y) (sym (e v))

-- a sum of nothing and more
zero_first : (b : ℤ) → pos 0 +ℤ b ≡ b
zero_first b = omega (arith, ints)

pub sums_more : (none s : Sum) (f : Values → ℤ) → SumsUp none (λ v. pos 0) → Adds none s f → SumsUp s f
sums_more none s f u a = record {
  words = λ v. a.words v ∙ sym (int_wrap-add_left w64 (total v none) (f v)) ∙ ap (λ y. wrapped (y +ℤ f v)) (u.words v) ∙ int_wrap-add_left w64 (pos 0) (f v) ∙ ap wrapped (zero_first (f v));
  exact = λ g v. let x = a.exact g in x.1 v ∙ ap (λ y. y +ℤ f v) (u.exact x.0 v) ∙ zero_first (f v);
}

pub sums_same : (s : Sum) (f g : Values → ℤ) → ((v : Values) → f v ≡ g v) → SumsUp s f → SumsUp s g
sums_same s f g e u = record {
  words = λ v. u.words v ∙ ap wrapped (e v);
  exact = λ h v. u.exact h v ∙ e v;
}

-- ---- pairs, from one on

pub spread : (t c x r : ℤ) → t *ℤ (c *ℤ x +ℤ r) ≡ c *ℤ t *ℤ x +ℤ t *ℤ r
spread t c x r =
    let whole = mul-add t (c *ℤ x) r in
    let turned : t *ℤ (c *ℤ x) ≡ c *ℤ t *ℤ x = sym (mul_assoc_ℤ t c x) ∙ ap (λ y. y *ℤ x) (*ℤ_comm t c) in
    omega (arith, ints, whole, turned)

pub dot_next : (pairs : List (ℕ × ℤ)) (values : List ℤ) (i : ℕ) (d : ℕ × ℤ) (times : ℤ) → i < length pairs →
    times *ℤ dot (drop i pairs) values ≡ ((get_or pairs i d).1 *ℤ times) *ℤ numbered values (get_or pairs i d).0 +ℤ times *ℤ dot (drop (i + 1) pairs) values
dot_next pairs values i d times h = rw (add-one, drop-cons pairs i d h) (spread times (get_or pairs i d).1 (numbered values (get_or pairs i d).0) (dot (drop (suc i) pairs) values))

pub loops_next : (v : Values) (pairs : List (ℕ × ℤ)) (i : ℕ) (d : ℕ × ℤ) (times : ℤ) → i < length pairs →
    times *ℤ loops_at v (drop i pairs) ≡ ((get_or pairs i d).1 *ℤ times) *ℤ v (loop_name (get_or pairs i d).0) +ℤ times *ℤ loops_at v (drop (i + 1) pairs)
loops_next v pairs i d times h = rw (add-one, drop-cons pairs i d h) (spread times (get_or pairs i d).1 (v (loop_name (get_or pairs i d).0)) (loops_at v (drop (suc i) pairs)))

pub times_none : (t z : ℤ) → z ≡ pos 0 → t *ℤ z ≡ pos 0
times_none t z e = ap (λ y. t *ℤ y) e ∙ *ℤ-zero t

-- ---- three parts of a form

pub adds_then : (old middle new : Sum) (f g : Values → ℤ) → Adds old middle f → Adds middle new g → Adds old new (λ v. f v +ℤ g v)
adds_then old middle new f g a b = record {
  words = λ v. b.words v ∙ sym (int_wrap-add_left w64 (total v middle) (g v)) ∙ ap (λ y. wrapped (y +ℤ g v)) (a.words v) ∙ int_wrap-add_left w64 (total v old +ℤ f v) (g v) ∙ ap wrapped (assoc (total v old) (f v) (g v));
  exact = λ h. let y = b.exact h in let x = a.exact y.0 in (x.0, λ v. y.1 v ∙ ap (λ z. z +ℤ g v) (x.1 v) ∙ assoc (total v old) (f v) (g v));
}
  where
    assoc : (a b c : ℤ) → a +ℤ b +ℤ c ≡ a +ℤ (b +ℤ c)
    assoc a b c = omega (arith, ints)

pub form_parts : (k l d t : ℤ) → k *ℤ t +ℤ t *ℤ d +ℤ t *ℤ l ≡ t *ℤ (k +ℤ l +ℤ d)
form_parts k l d t =
    let first = mul-add t (k +ℤ l) d in
    let second = mul-add t k l in
    let turned = *ℤ_comm k t in
    omega (arith, ints, first, second, turned)

pub one_times : (z : ℤ) → pos 1 *ℤ z ≡ z
one_times z = omega (arith, ints)

-- an element's place, less the lower bound
pub place_parts : (t f low : ℤ) → t *ℤ f +ℤ (low *ℤ t) *ℤ negsuc 0 ≡ t *ℤ (f -ℤ low)
place_parts t f low =
    let whole = mul-add t f (low *ℤ negsuc 0) in
    let turned = minus_times t low in
    let less : f +ℤ low *ℤ negsuc 0 ≡ f -ℤ low = omega (arith, ints) in
    let same : t *ℤ (f +ℤ low *ℤ negsuc 0) ≡ t *ℤ (f -ℤ low) = ap (λ y. t *ℤ y) less in
    omega (arith, ints, whole, turned, same)
  where
    minus_times : (t low : ℤ) → t *ℤ (low *ℤ negsuc 0) ≡ low *ℤ t *ℤ negsuc 0
    minus_times t low = sym (mul_assoc_ℤ t low (negsuc 0)) ∙ ap (λ y. y *ℤ negsuc 0) (*ℤ_comm t low)

-- ---- a sum that is to come to all, but for what is left
pub record SumsLeft (s : Sum) (rest all : Values → ℤ) : Type 0 where
  pub words : (v : Values) → wrapped (total v s +ℤ rest v) ≡ wrapped (all v)
  pub exact : IsTrue s.is_exact → (v : Values) → total v s +ℤ rest v ≡ all v

pub sums_none : (s : Sum) (all : Values → ℤ) → SumsUp s (λ v. pos 0) → SumsLeft s all all
sums_none s all u = record {
  words = λ v. sym (int_wrap-add_left w64 (total v s) (all v)) ∙ ap (λ y. wrapped (y +ℤ all v)) (u.words v) ∙ int_wrap-add_left w64 (pos 0) (all v) ∙ ap wrapped (zero_first (all v));
  exact = λ h v. ap (λ y. y +ℤ all v) (u.exact h v) ∙ zero_first (all v);
}

pub sums_next : (s next : Sum) (rest more rest' all : Values → ℤ) → SumsLeft s rest all → Adds s next more → ((v : Values) → rest v ≡ more v +ℤ rest' v) → SumsLeft next rest' all
sums_next s next rest more rest' all l a e = record {
  words = λ v. sym (int_wrap-add_left w64 (total v next) (rest' v)) ∙ ap (λ y. wrapped (y +ℤ rest' v)) (a.words v) ∙ int_wrap-add_left w64 (total v s +ℤ more v) (rest' v) ∙ ap wrapped (joined v) ∙ l.words v;
  exact = λ h v. let x = a.exact h in ap (λ z. z +ℤ rest' v) (x.1 v) ∙ joined v ∙ l.exact x.0 v;
}
  where
    assoc : (a b c : ℤ) → a +ℤ b +ℤ c ≡ a +ℤ (b +ℤ c)
    assoc a b c = omega (arith, ints)

    joined : (v : Values) → total v s +ℤ more v +ℤ rest' v ≡ total v s +ℤ rest v
    joined v = assoc (total v s) (more v) (rest' v) ∙ ap (λ y. total v s +ℤ y) (sym (e v))

pub sums_all : (s : Sum) (rest all : Values → ℤ) → SumsLeft s rest all → ((v : Values) → rest v ≡ pos 0) → SumsUp s all
sums_all s rest all l e = record {
  words = λ v. ap wrapped (nothing v) ∙ l.words v;
  exact = λ h v. nothing v ∙ l.exact h v;
}
  where
    zero_more : (a : ℤ) → a ≡ a +ℤ pos 0
    zero_more a = omega (arith, ints)

    nothing : (v : Values) → total v s ≡ total v s +ℤ rest v
    nothing v = zero_more (total v s) ∙ ap (λ y. total v s +ℤ y) (sym (e v))

-- ---- places

pub place_over : (params : List ℤ) (stride : ℤ) (subscripts : List Form) (bounds : List (ℤ × ℤ)) (v : Values) → subscripts ≡ [] → place_at params stride subscripts bounds v ≡ pos 0
place_over params stride subscripts bounds v none = ap (λ fs. place_at params stride fs bounds v) none

pub place_none : (params : List ℤ) (stride : ℤ) (subscripts : List Form) (bounds : List (ℤ × ℤ)) (v : Values) → bounds ≡ [] → place_at params stride subscripts bounds v ≡ pos 0
place_none params stride subscripts bounds v none = ap (λ bs. place_at params stride subscripts bs v) none ∙ by subscripts
  where
    by : (fs : List Form) → place_at params stride fs [] v ≡ pos 0
    by [] = refl
    by (f ∷ fs) = refl

pub place_next : (params : List ℤ) (stride : ℤ) (subscripts : List Form) (bounds : List (ℤ × ℤ)) (i : ℕ) (d : Form) (b : ℤ × ℤ) (v : Values) → i < length subscripts → i < length bounds →
    place_at params stride (drop i subscripts) (drop i bounds) v
    ≡ stride *ℤ (form_at params (get_or subscripts i d) v -ℤ (get_or bounds i b).0)
    +ℤ place_at params (wrapped (stride *ℤ wrapped ((get_or bounds i b).1 -ℤ (get_or bounds i b).0 +ℤ pos 1))) (drop (i + 1) subscripts) (drop (i + 1) bounds) v
place_next params stride subscripts bounds i d b v lt lt' = rw (add-one, drop-cons subscripts i d lt, drop-cons bounds i b lt') refl
