-- Texts that are appended one behind another, and what they read as.
use Rattle.std.proofs.Common.{◌≡◌, ℕ, suc, ◌==◌, ℤ, pos, negsuc, false, IsTrue, List, ◌++◌, codes, refl, ap, sym, ◌∙◌, subst, arith, append_assoc, FitsSigned, w64, if◌then◌else◌}
use Rattle.std.specs.Fmt.{signed_decimal}
use Rattle.std.proofs.lemmas.Bool.{ne_eqb}
use Rattle.c_expressions.specs.CExpressions.{CExpression, constant, identifier, minus}
use Rattle.c_expressions.specs.Grammar.{Appends, Reads, is_call, is_constant, is_identifier, is_minus, is_only, is_postfix, is_term, is_unary, is_variable, postfix, unary}
use Rattle.c_expressions.specs.Numbers.{literal_of, word_of}

pub assoc_bytes : (a b c : List ℕ) → (a ++ b) ++ c ≡ a ++ (b ++ c)
assoc_bytes a b c = simp append_assoc

regroup : (a b c d : List ℕ) → ((a ++ b) ++ c) ++ d ≡ a ++ ((b ++ c) ++ d)
regroup a b c d = simp append_assoc

-- a text between two others
pub between : (old m n new x t y : List ℕ) → m ≡ old ++ x → n ≡ m ++ t → new ≡ n ++ y → new ≡ old ++ ((x ++ t) ++ y)
between old m n new x t y e f g = g ∙ ap (λ z. z ++ y) (f ∙ ap (λ z. z ++ t) e) ∙ regroup old x t y

-- ---- numbers

literal_reads : (z : ℤ) → FitsSigned w64 z → (z ≡ negsuc 9223372036854775807 → ⊥) → Reads unary (signed_decimal z) (literal_of z)
literal_reads (pos n) fits other = is_postfix (is_constant n (omega arith))
literal_reads (negsuc n) fits other =
    let ne : n ≡ 9223372036854775807 → ⊥ = λ is. other (ap negsuc is) in
    let e : (n == 9223372036854775807) ≡ false = ne_eqb n 9223372036854775807 ne in
    subst (λ b. Reads unary (signed_decimal (negsuc n)) (if b then identifier (codes "INT64_MIN") else minus (constant (suc n)))) (sym e) (is_minus (is_constant (suc n) (omega arith)))

pub literal_appends : (old new : List ℕ) (z : ℤ) → FitsSigned w64 z → (z ≡ negsuc 9223372036854775807 → ⊥) → new ≡ old ++ signed_decimal z → Appends old new unary (literal_of z)
literal_appends old new z fits other e = record { text = signed_decimal z; appended = e; reads = literal_reads z fits other }

pub least_appends : (old new : List ℕ) (z : ℤ) → z ≡ negsuc 9223372036854775807 → new ≡ old ++ codes "INT64_MIN" → Appends old new unary (literal_of z)
least_appends old new z is e = subst (λ y. Appends old new unary (literal_of y)) (sym is) (record { text = codes "INT64_MIN"; appended = e; reads = is_postfix (is_identifier refl) })

-- ---- words

pub word_appends : (old m n new : List ℕ) (a : CExpression) → m ≡ old ++ codes "W(" → Appends m n unary a → new ≡ n ++ codes ")" → Appends old new postfix (word_of a)
word_appends old m n new a e x f = record {
  text = (codes "W(" ++ x.text) ++ codes ")";
  appended = between old m n new (codes "W(") x.text (codes ")") e x.appended f;
  reads = is_call {function = codes "W"} refl (is_only (is_term (is_unary x.reads)));
}

pub named_word_appends : (old m n new name : List ℕ) → IsTrue (is_variable name) → m ≡ old ++ codes "W(" → n ≡ m ++ name → new ≡ n ++ codes ")" → Appends old new postfix (word_of (identifier name))
named_word_appends old m n new name good e f g = word_appends old m n new (identifier name) e (record { text = name; appended = f; reads = is_postfix (is_identifier good) }) g
