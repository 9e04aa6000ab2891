-- Sums of words, taken back to numbers.
use Rattle.std.proofs.Common.{◌≡◌, ℕ, suc, ◌+◌, ◌<◌, ◌==◌, ℤ, pos, negsuc, ◌+ℤ◌, ◌-ℤ◌, ◌*ℤ◌, Bool, true, false, List, [], ◌∷◌, ◌++◌, codes, length, get_or, drop, w64, refl, ap, ap₂, sym, ◌∙◌, subst, arith, append_assoc, add-one, if◌then◌else◌}
use Rattle.std.proofs.Math.Seq.{drop-cons}
use Rattle.std.proofs.lemmas.Bool.{eqb-true}
use Rattle.std.proofs.lemmas.Int.{ints, int_wrap_fits}
use Rattle.nest_tree.specs.Values.{wrapped}
use Rattle.c_expressions.specs.CExpressions.{as_number, constant, identifier, minus, plus, times}
use Rattle.c_expressions.specs.Grammar.{Appends, in_parentheses, is_cast, is_postfix, is_product, is_sum, is_term, is_unary, postfix}
use Rattle.c_expressions.specs.Names.{term_name}
use Rattle.c_expressions.specs.Numbers.{literal_of, number_at, word_of}
use Rattle.c_expressions.specs.Sums.{AppendsSum, AppendsWords, Values, terms_at, total}
use Rattle.c_expressions.specs.declared.sum.Sum.{Sum}
use Rattle.c_expressions.specs.declared.sum.Term.{Term}
use Rattle.c_expressions.proofs.Appending.{assoc_bytes, named_word_appends}
use Rattle.c_expressions.proofs.Spelled.{term_name_is}

-- a literal comes to its number
literal_value : (v : Values) (z : ℤ) → v (codes "INT64_MIN") ≡ negsuc 9223372036854775807 → number_at v (literal_of z) ≡ z
literal_value v (pos n) least = refl
literal_value v (negsuc n) least = by (n == 9223372036854775807) refl
  where
    below_zero : (m : ℕ) → pos 0 -ℤ pos (suc m) ≡ negsuc m
    below_zero m = omega (arith, ints)

    by : (b : Bool) → (n == 9223372036854775807) ≡ b → number_at v (if b then identifier (codes "INT64_MIN") else minus (constant (suc n))) ≡ negsuc n
    by true e = least ∙ ap negsuc (sym (eqb-true n 9223372036854775807 e))
    by false e = below_zero n

pub words_begin : (old new : List ℕ) (k : ℤ) → Appends old new postfix (word_of (literal_of k)) → AppendsWords old new (λ v. k)
words_begin old new k a = record {
  expression = word_of (literal_of k);
  appends = record { text = a.text; appended = a.appended; reads = is_term (is_unary (is_postfix a.reads)) };
  value = λ v least. literal_value v k least;
}

pub words_go_on : (before m n o new : List ℕ) (c : ℤ) (t : Term) → m ≡ before ++ codes " + " → Appends m n postfix (word_of (literal_of c)) → o ≡ n ++ codes "*W(" → (last : List ℕ) → last ≡ o ++ term_name t → new ≡ last ++ codes ")" →
    (old : List ℕ) (part : Values → ℤ) → AppendsWords old before part → AppendsWords old new (λ v. part v +ℤ (c *ℤ v (term_name t)))
words_go_on before m n o new c t e a f last g h old part p = record {
  expression = plus p.expression (times (word_of (literal_of c)) (word_of (identifier (term_name t))));
  appends = record {
    text = p.appends.text ++ codes " + " ++ (a.text ++ codes "*" ++ w.text);
    appended = all;
    reads = is_sum p.appends.reads (is_product (is_unary (is_postfix a.reads)) (is_postfix w.reads));
  };
  value = λ v least. ap₂ (λ x y. x +ℤ y *ℤ v (term_name t)) (p.value v least) (literal_value v c least);
}
  where
    -- the star, and what is behind it
    split : o ≡ (n ++ codes "*") ++ codes "W("
    split = f ∙ sym (assoc_bytes n (codes "*") (codes "W("))

    w : Appends (n ++ codes "*") new postfix (word_of (identifier (term_name t)))
    w = named_word_appends (n ++ codes "*") o last new (term_name t) (term_name_is t) split g h

    regroup : (a b c d e f : List ℕ) → ((((a ++ b) ++ c) ++ d) ++ e) ++ f ≡ a ++ ((b ++ c) ++ ((d ++ e) ++ f))
    regroup a b c d e f = simp append_assoc

    all : new ≡ old ++ (p.appends.text ++ codes " + " ++ (a.text ++ codes "*" ++ w.text))
    all = w.appended ∙ ap (λ x. (x ++ codes "*") ++ w.text) (a.appended ∙ ap (λ x. x ++ a.text) (e ∙ ap (λ x. x ++ codes " + ") p.appends.appended)) ∙ regroup old p.appends.text (codes " + ") a.text (codes "*") w.text

pub words_stay : (before new : List ℕ) (c : ℤ) (t : Term) → new ≡ before → c ≡ pos 0 → (old : List ℕ) (part : Values → ℤ) → AppendsWords old before part → AppendsWords old new (λ v. part v +ℤ (c *ℤ v (term_name t)))
words_stay before new c t e none old part p = subst (λ now. AppendsWords old now (λ v. part v +ℤ (c *ℤ v (term_name t)))) (sym e) (record {
  expression = p.expression;
  appends = p.appends;
  value = λ v least. p.value v least ∙ same (part v) c (v (term_name t)) none;
})
  where
    zero_times : (a x : ℤ) → a ≡ a +ℤ pos 0 *ℤ x
    zero_times a x = omega (arith, ints)

    same : (a c x : ℤ) → c ≡ pos 0 → a ≡ a +ℤ c *ℤ x
    same a c x z = zero_times a x ∙ ap (λ k. a +ℤ k *ℤ x) (sym z)

-- ---- all parts

pub record WordsSoFar (start now : List ℕ) (k : ℤ) (terms rest : List (Term × ℤ)) : Type 0 where
  pub part : Values → ℤ
  pub words : AppendsWords start now part
  pub left : (v : Values) → part v +ℤ terms_at v rest ≡ k +ℤ terms_at v terms

pub words_first : (start now : List ℕ) (k : ℤ) (terms : List (Term × ℤ)) → Appends start now postfix (word_of (literal_of k)) → WordsSoFar start now k terms terms
words_first start now k terms a = record { part = λ v. k; words = words_begin start now k a; left = λ v. refl }

words_next_at : (start now new : List ℕ) (k : ℤ) (terms rest : List (Term × ℤ)) (x : Term × ℤ) → WordsSoFar start now k terms (x ∷ rest) →
    ((old : List ℕ) (part : Values → ℤ) → AppendsWords old now part → AppendsWords old new (λ v. part v +ℤ (x.1 *ℤ v (term_name x.0)))) → WordsSoFar start new k terms rest
words_next_at start now new k terms rest x s more = record {
  part = λ v. s.part v +ℤ x.1 *ℤ v (term_name x.0);
  words = more start s.part s.words;
  left = λ v. assoc (s.part v) (x.1 *ℤ v (term_name x.0)) (terms_at v rest) ∙ s.left v;
}
  where
    assoc : (a b c : ℤ) → a +ℤ b +ℤ c ≡ a +ℤ (b +ℤ c)
    assoc a b c = omega (arith, ints)

pub words_next : (start now new : List ℕ) (k : ℤ) (terms : List (Term × ℤ)) (i : ℕ) (d : Term × ℤ) → i < length terms → WordsSoFar start now k terms (drop i terms) →
    ((old : List ℕ) (part : Values → ℤ) → AppendsWords old now part → AppendsWords old new (λ v. part v +ℤ ((get_or terms i d).1 *ℤ v (term_name (get_or terms i d).0)))) → WordsSoFar start new k terms (drop (i + 1) terms)
words_next start now new k terms i d lt s more = rw add-one (words_next_at start now new k terms (drop (suc i) terms) (get_or terms i d) (subst (λ ts. WordsSoFar start now k terms ts) (drop-cons terms i d lt) s) more)

-- inside of the parentheses
pub record WordsInside (old now : List ℕ) (k : ℤ) (terms rest : List (Term × ℤ)) : Type 0 where
  pub start : List ℕ
  pub opened : start ≡ old ++ codes "(number)("
  pub so_far : WordsSoFar start now k terms rest

pub words_all : (s : Sum) (old start now new : List ℕ) (rest : List (Term × ℤ)) → start ≡ old ++ codes "(number)(" → rest ≡ [] → WordsSoFar start now s.constant s.terms.items rest → new ≡ now ++ codes ")" → AppendsSum s old new
words_all s old start now new rest e none so_far f = record {
  expression = as_number so_far.words.expression;
  appends = record {
    text = (codes "(number)(" ++ so_far.words.appends.text) ++ codes ")";
    appended = f ∙ ap (λ x. x ++ codes ")") (so_far.words.appends.appended ∙ ap (λ x. x ++ so_far.words.appends.text) e) ∙ regroup old (codes "(number)(") so_far.words.appends.text (codes ")");
    reads = is_term (is_unary (is_cast (is_postfix (in_parentheses so_far.words.appends.reads))));
  };
  comes = λ all u. record {
    value = λ v least fits. ap wrapped (so_far.words.value v least ∙ whole v) ∙ u.words v ∙ int_wrap_fits w64 (all v) fits;
    narrow = λ v near. tt;
  };
}
  where
    regroup : (a b c d : List ℕ) → ((a ++ b) ++ c) ++ d ≡ a ++ ((b ++ c) ++ d)
    regroup a b c d = simp append_assoc

    order : (a r t : ℤ) → a +ℤ r ≡ t → r ≡ pos 0 → a ≡ t
    order a r t h z = omega (arith, ints, h, z)

    whole : (v : Values) → so_far.part v ≡ total v s
    whole v = order (so_far.part v) (terms_at v rest) (total v s) (so_far.left v) (ap (terms_at v) none)
