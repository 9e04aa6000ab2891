-- Places pair by pair, and how owners read.
use Rattle.std.proofs.Common.{◌≡◌, ℕ, suc, ◌+◌, ◌<◌, ◌^◌, ℤ, pos, ◌+ℤ◌, ◌*ℤ◌, List, [], ◌∷◌, ◌++◌, codes, length, get_or, drop, Option, refl, ap, sym, ◌∙◌, subst, arith, append_assoc, add-one}
use Rattle.std.specs.Fmt.{decimal}
use Rattle.std.specs.List.{All}
use Rattle.std.proofs.Math.IntN.{*ℤ_comm, *ℤ-zero}
use Rattle.std.proofs.Math.Seq.{drop-cons}
use Rattle.std.proofs.lemmas.Int.{ints}
use Rattle.nest_tree.specs.Form.{Form}
use Rattle.nest_tree.specs.Tree.{Tree}
use Rattle.owner_partition.specs.declared.anchor.Dist.TheVariants.{Block, Cyclic}
use Rattle.owner_partition.specs.Owners.{dealt}
use Rattle.c_expressions.specs.CExpressions.{call, constant, first_of, identifier, only}
use Rattle.c_expressions.specs.Grammar.{Appends, is_call, is_constant, is_first, is_identifier, is_only, is_postfix, is_term, is_unary, unary}
use Rattle.c_expressions.specs.Names.{term_name}
use Rattle.c_expressions.specs.Numbers.{literal_of}
use Rattle.c_expressions.specs.Sums.{AppendsSum, IsPlain, SumsUp, Values, terms_at, total}
use Rattle.c_expressions.specs.declared.sum.Sum.{Sum}
use Rattle.c_expressions.specs.declared.sum.Term.{Term}
use Rattle.c_expressions.proofs.Summed.{spread}
use Rattle.c_statements.specs.Texts.{Written}
use Rattle.c_owners.specs.Owners.{Alike, SpotOwner, SumsUpAlike, block_number, block_owner, loops_in, place_at, spot_at, term_in, turn_number, turn_owner}

pub loops_next : (last : Option ℕ) (v : Values) (pairs : List (ℕ × ℤ)) (i : ℕ) (d : ℕ × ℤ) (times : ℤ) → i < length pairs →
    times *ℤ loops_in last v (drop i pairs) ≡ ((get_or pairs i d).1 *ℤ times) *ℤ v (term_name (term_in last (get_or pairs i d).0)) +ℤ times *ℤ loops_in last v (drop (i + 1) pairs)
loops_next last v pairs i d times h = rw (add-one, drop-cons pairs i d h) (spread times (get_or pairs i d).1 (v (term_name (term_in last (get_or pairs i d).0))) (loops_in last v (drop (suc i) pairs)))

pub loops_step : (last : Option ℕ) (v : Values) (pairs : List (ℕ × ℤ)) (i : ℕ) (d : ℕ × ℤ) → i < length pairs →
    loops_in last v (drop i pairs) ≡ (get_or pairs i d).1 *ℤ v (term_name (term_in last (get_or pairs i d).0)) +ℤ loops_in last v (drop (i + 1) pairs)
loops_step last v pairs i d h = rw (add-one, drop-cons pairs i d h) refl

pub terms_step : (v : Values) (terms : List (Term × ℤ)) (i : ℕ) (d : Term × ℤ) → i < length terms → terms_at v (drop i terms) ≡ (get_or terms i d).1 *ℤ v (term_name (get_or terms i d).0) +ℤ terms_at v (drop (i + 1) terms)
terms_step v terms i d h = rw (add-one, drop-cons terms i d h) refl

-- ---- sums without terms

no_terms : (v : Values) (terms : List (Term × ℤ)) → All (λ t. t.1 ≡ pos 0) terms → terms_at v terms ≡ pos 0
no_terms v [] none = refl
no_terms v (t ∷ terms) none =
    let zero : t.1 ≡ pos 0 = none 0 t (omega arith) in
    let here : t.1 *ℤ v (term_name t.0) ≡ pos 0 = ap (λ z. z *ℤ v (term_name t.0)) zero ∙ *ℤ_comm (pos 0) (v (term_name t.0)) ∙ *ℤ-zero (v (term_name t.0)) in
    let later = no_terms v terms (λ k d lt. none (suc k) d (omega (arith, lt))) in
    omega (arith, ints, here, later)

pub constant_total : (s : Sum) (v : Values) → All (λ t. t.1 ≡ pos 0) s.terms.items → total v s ≡ s.constant
constant_total s v none = let rest = no_terms v s.terms.items none in omega (arith, ints, rest)

-- ---- owners

module _ (workers : ℕ) where
  pub block_number_written : (length : ℕ) (place : Values → ℤ) (s : Sum) {old new : List ℕ} → SumsUp s place → IsPlain s → All (λ t. t.1 ≡ pos 0) s.terms.items → Appends old new unary (literal_of (dealt (Block length) workers s.constant)) →
      Written (SpotOwner workers (Block length) place) old new
  block_number_written length place s u plain none x = record {
    text = x.text;
    appended = x.appended;
    is = record {
      expression = literal_of (dealt (Block length) workers s.constant);
      reads = is_term (is_unary x.reads);
      owner = block_number (λ v. sym (u.exact plain.exact v) ∙ constant_total s v none);
    };
  }

  pub turn_number_written : (place : Values → ℤ) (s : Sum) {old new : List ℕ} → SumsUpAlike workers s place → IsPlain s → All (λ t. t.1 ≡ pos 0) s.terms.items → Appends old new unary (literal_of (dealt Cyclic workers s.constant)) →
      Written (SpotOwner workers Cyclic place) old new
  turn_number_written place s u plain none x = record {
    text = x.text;
    appended = x.appended;
    is = record {
      expression = literal_of (dealt Cyclic workers s.constant);
      reads = is_term (is_unary x.reads);
      owner = turn_number (λ v. subst (λ z. Alike workers z (place v)) (sym (u.sums.exact plain.exact v) ∙ constant_total s v none) (u.alike v));
    };
  }

  pub block_owner_written : (length : ℕ) (place : Values → ℤ) (s : Sum) (old m n o p new : List ℕ) → length < 2 ^ 63 → SumsUp s place → m ≡ old ++ codes "floored(" → AppendsSum s m n → o ≡ n ++ codes ", " → p ≡ o ++ decimal length → new ≡ p ++ codes ")" →
      Written (SpotOwner workers (Block length) place) old new
  block_owner_written length place s old m n o p new small u e x f g h = record {
    text = (codes "floored" ++ codes "(" ++ (x.appends.text ++ codes ", " ++ decimal length)) ++ codes ")";
    appended = h ∙ ap (λ z. z ++ codes ")") (g ∙ ap (λ z. z ++ decimal length) (f ∙ ap (λ z. z ++ codes ", ") (x.appends.appended ∙ ap (λ z. z ++ x.appends.text) e))) ∙ regroup old (codes "floored(") x.appends.text (codes ", ") (decimal length) (codes ")");
    is = record {
      expression = call (codes "floored") (first_of x.expression (only (constant length)));
      reads = is_term (is_unary (is_postfix (is_call {function = codes "floored"} refl (is_first x.appends.reads (is_only (is_term (is_unary (is_postfix (is_constant length small)))))))));
      owner = block_owner (x.comes place u);
    };
  }
    where
      regroup : (a b c d e f : List ℕ) → ((((a ++ b) ++ c) ++ d) ++ e) ++ f ≡ a ++ ((b ++ ((c ++ d) ++ e)) ++ f)
      regroup a b c d e f = simp append_assoc

  pub turn_owner_written : (place : Values → ℤ) (s : Sum) (old m n new : List ℕ) → SumsUpAlike workers s place → m ≡ old ++ codes "modulo(" → AppendsSum s m n → new ≡ n ++ codes ", P)" → Written (SpotOwner workers Cyclic place) old new
  turn_owner_written place s old m n new u e x f = record {
    text = (codes "modulo" ++ codes "(" ++ (x.appends.text ++ codes ", " ++ codes "P")) ++ codes ")";
    appended = f ∙ ap (λ z. z ++ codes ", P)") (x.appends.appended ∙ ap (λ z. z ++ x.appends.text) e) ∙ regroup old (codes "modulo(") x.appends.text (codes ", ") (codes "P") (codes ")");
    is = record {
      expression = call (codes "modulo") (first_of x.expression (only (identifier (codes "P"))));
      reads = is_term (is_unary (is_postfix (is_call {function = codes "modulo"} refl (is_first x.appends.reads (is_only (is_term (is_unary (is_postfix (is_identifier refl)))))))));
      owner = turn_owner (x.comes u.other u.sums) u.alike;
    };
  }
    where
      regroup : (a b c d e f : List ℕ) → ((a ++ b) ++ c) ++ (d ++ (e ++ f)) ≡ a ++ ((b ++ ((c ++ d) ++ e)) ++ f)
      regroup a b c d e f = simp append_assoc

-- ---- spots of forms

pub spot_is : (tree : Tree) (f : Form) (last : Option ℕ) (k : ℤ) (loops params : List (ℕ × ℤ)) (named : Option ℕ) → k ≡ f.constant → loops ≡ f.loops → params ≡ f.params → named ≡ last → spot_at tree k loops params named ≡ place_at tree last f
spot_is tree f last k loops params named e g h i =
    ap (λ z. spot_at tree z loops params named) e ∙ ap (λ z. spot_at tree f.constant z params named) g ∙ ap (λ z. spot_at tree f.constant f.loops z named) h ∙ ap (λ z. spot_at tree f.constant f.loops f.params z) i
