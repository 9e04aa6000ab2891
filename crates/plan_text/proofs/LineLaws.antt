-- The lines of a plan's text are read as what they are written from.
use Rattle.std.proofs.Common.{◌≡◌, ℕ, ◌+◌, ◌<◌, ◌^◌, Bool, true, false, ◌&&◌, ◌==◌, not, nat_lt, List, [], ◌∷◌, ◌++◌, length, map, drop, Option, Some, refl, sym, ap, ◌∙◌, codes, append-nil, append_assoc, arith}
use Rattle.std.specs.Fmt.{decimal, signed_decimal}
use Rattle.std.specs.List.{list_all}
use Rattle.std.proofs.lemmas.Bool.{and_from, and_parts}
use Rattle.std.proofs.lemmas.List.Folds.{list_all-append}
use Rattle.farkas_cert.specs.declared.certificate.Step.{Step}
use Rattle.nest_tree.specs.Form.{is_small, rises_above}
use Rattle.owner_partition.specs.declared.anchor.Anchor.{Anchor}
use Rattle.owner_partition.specs.declared.cut.Mark.{Mark}
use Rattle.sync_plan.specs.declared.plan.ConditionRow.{ConditionRow}
use Rattle.sync_plan.specs.declared.plan.Kind.{Kind}
use Rattle.sync_plan.specs.declared.plan.Version.{Version}
use Rattle.plan_text.specs.Loose.{count_32_said, count_64_said, last_word, loop_of, loop_said, narrow_of, number_32, number_64, phase_of, phase_said, row_of, row_said, step_of, step_said, steps_said, term_of, word_at}
use Rattle.plan_text.specs.PlanText.{has_loop, is_loop_shown, is_32, is_64, is_phase_shown, is_row_shown, is_step_shown, is_kind_shown, is_anchor_shown}
use Rattle.std.proofs.Common.{subst}
use Rattle.plan_text.specs.declared.syntax.PlanSyntax.{PlanSyntax}
use Rattle.plan_text.specs.declared.syntax.PlanSyntax.TheVariants.{Line}
use Rattle.plan_text.specs.Stops.{IsAlienLine, RefusesLine, Stops}
use Rattle.plan_text.specs.Words.{anchor_words, cert_line, count_line, kind_words, loop_line, mark_word, pair_word, phase_line, private_words, row_line, step_line, term_word}
use Rattle.plan_text.proofs.Anchors.{good_pairs, last-word, phase-read, words-anchor, words-kind}
use Rattle.plan_text.proofs.LoopWords.{loop-read, word-mark, words-privates}
use Rattle.plan_text.proofs.Numbers.{signed-read}
use Rattle.plan_text.proofs.PairWords.{is_good_pair, is_good_term, narrow-read, pairs-read, plain-passed, read-32, read-64, small-wide, terms-read, word-32, word-64, words-pairs, words-terms}
use Rattle.plan_text.specs.Unbroken.{is_unbroken}
use Rattle.plan_text.proofs.Splitting.{is_word, line-unbroken, plain-decimal, plain-signed, word-decimal, word-signed, words_of-line}

-- the lines of values that are shown are whole, and say these values
pub record LineLaw {X : Type 0} (line : X → List ℕ) (shown : X → Bool) (said : List ℕ → Option X) : Type 0 where
  pub unbroken : (x : X) → shown x ≡ true → is_unbroken (line x) ≡ true
  pub read : (x : X) → shown x ≡ true → said (line x) ≡ Some x

-- two lines with their ends in front of one text are one
pub same_line : (a b r s : List ℕ) → is_unbroken a ≡ true → is_unbroken b ≡ true → a ++ (10 ∷ r) ≡ b ++ (10 ∷ s) → a ≡ b
same_line [] [] r s h k e = refl
same_line [] (y ∷ b) r s h k e =
    let first : 10 ≡ y = cc in
    let parts = and_parts (not (y == 10)) (is_unbroken b) k in
    absurd (let no : not (10 == 10) ≡ true = ap (λ c. not (c == 10)) first ∙ parts.0 in let clash : false ≡ true = no in cc)
same_line (x ∷ a) [] r s h k e =
    let first : x ≡ 10 = cc in
    let parts = and_parts (not (x == 10)) (is_unbroken a) h in
    absurd (let no : not (10 == 10) ≡ true = ap (λ c. not (c == 10)) (sym first) ∙ parts.0 in let clash : false ≡ true = no in cc)
same_line (x ∷ a) (y ∷ b) r s h k e =
    let first : x ≡ y = cc in
    let rest : a ++ (10 ∷ r) ≡ b ++ (10 ∷ s) = cc in
    ap (λ z. z ∷ a) first ∙ ap (λ zs. y ∷ zs) (same_line a b r s (and_parts (not (x == 10)) (is_unbroken a) h).1 (and_parts (not (y == 10)) (is_unbroken b) k).1 rest)

-- bytes without a line end have no line
pub no_line : {X : Type 0} (line : X → List ℕ) (shown : X → Bool) (rest : List ℕ) → is_unbroken rest ≡ true → IsAlienLine line shown rest
no_line line shown rest h = λ x behind good e.
    let all = sym (list_all-append (λ b. not (b == 10)) (line x) (10 ∷ behind)) ∙ ap is_unbroken (sym e) ∙ h in
    let parts = and_parts (is_unbroken (line x)) false all in
    let clash : false ≡ true = parts.1 in absurd (cc)

module _ {X : Type 0} (line : X → List ℕ) (shown : X → Bool) (said : List ℕ → Option X) (law : LineLaw line shown said) where
  -- a line that isn't that of what it says
  pub alien_line : (text rest behind : List ℕ) → is_unbroken text ≡ true → rest ≡ text ++ (10 ∷ behind) → ((x : X) → shown x ≡ true → said text ≡ Some x → line x ≡ text → ⊥) → IsAlienLine line shown rest
  alien_line text rest behind whole cut none = λ x later good e.
      let same = same_line (line x) text later behind (law.unbroken x good) whole (sym e ∙ cut) in
      none x good (ap said (sym same) ∙ law.read x good) same

  pub line_free : (x y : X) → shown x ≡ true → shown y ≡ true → line x ≡ line y → x ≡ y
  line_free x y h k e = (let both = sym (law.read x h) ∙ ap said e ∙ law.read y k in cc)

  pub alone_free : (r s : List (List ℕ)) (x y : X) → shown x ≡ true → shown y ≡ true → line x ∷ r ≡ line y ∷ s → x ≡ y
  alone_free r s x y h k e = (let first : line x ≡ line y = cc in line_free x y h k first)

-- one line
pub stops_line : {X : Type 0} (line : X → List ℕ) (shown : X → Bool) (d : X) → shown d ≡ true → (rest : List ℕ) (taken : ℕ) → IsAlienLine line shown rest → Stops (λ x. line x ∷ []) (λ x. shown x ≡ true) rest taken (taken + 1)
stops_line line shown d good rest taken alien = record {
  front = [];
  behind = rest;
  cut = refl;
  count = omega arith;
  whole = d;
  shown = good;
  next = line d;
  more = [];
  opened = refl;
  alien = λ x l later after h e cut. (let here : line x ≡ l = cc in alien x after h (cut ∙ ap (λ z. z ++ (10 ∷ after)) (sym here)));
}

-- the laws of each line
pub loop-law : (v : Version) (k : ℕ) → k < 10 ^ 64 → LineLaw (loop_line k) (is_loop_shown v) loop_said
loop-law v k low = record {
  unbroken = λ l h. line-unbroken (decimal k) (mark_word l.0 ∷ private_words l.1) (words l h);
  read = λ l h. ap (λ ws. Some (loop_of ws)) (words_of-line (decimal k) (mark_word l.0 ∷ private_words l.1) (words l h)) ∙ ap Some (loop-read (decimal k) l (narrow l h));
}
  where
    narrow : (l : Mark × List ℕ) → is_loop_shown v l ≡ true → list_all is_32 l.1 ≡ true
    narrow l h = (and_parts (has_loop v l) (list_all is_32 l.1) h).1

    words : (l : Mark × List ℕ) → is_loop_shown v l ≡ true → list_all is_word (decimal k ∷ mark_word l.0 ∷ private_words l.1) ≡ true
    words l h =
        and_from (is_word (decimal k)) (list_all is_word (mark_word l.0 ∷ private_words l.1)) (word-decimal k low)
        (and_from (is_word (mark_word l.0)) (list_all is_word (private_words l.1)) (word-mark l.0) (words-privates l.1 (narrow l h)))

pub count_32-law : (word : List ℕ) → is_word word ≡ true → LineLaw (count_line word) is_32 count_32_said
count_32-law word w =
    let words = λ (n : ℕ) (h : is_32 n ≡ true). and_from (is_word word) (is_word (decimal n) && true) w (and_from (is_word (decimal n)) true (word-32 n h) refl) in
    record {
      unbroken = λ n h. line-unbroken word (decimal n ∷ []) (words n h);
      read = λ n h. ap (λ ws. Some (number_32 (word_at 1 ws))) (words_of-line word (decimal n ∷ []) (words n h)) ∙ ap Some (read-32 n h);
    }

pub count_64-law : (word : List ℕ) → is_word word ≡ true → LineLaw (count_line word) is_64 count_64_said
count_64-law word w =
    let words = λ (n : ℕ) (h : is_64 n ≡ true). and_from (is_word word) (is_word (decimal n) && true) w (and_from (is_word (decimal n)) true (word-64 n h) refl) in
    record {
      unbroken = λ n h. line-unbroken word (decimal n ∷ []) (words n h);
      read = λ n h. ap (λ ws. Some (number_64 (word_at 1 ws))) (words_of-line word (decimal n ∷ []) (words n h)) ∙ ap Some (read-64 n h);
    }

pub steps-law : (k : ℕ) → k < 10 ^ 64 → LineLaw (cert_line k) is_64 steps_said
steps-law k low =
    let words = λ (n : ℕ) (h : is_64 n ≡ true). and_from (is_word (decimal k)) (true && (is_word (decimal n) && true)) (word-decimal k low) (and_from (is_word (decimal n)) true (word-64 n h) refl) in
    record {
      unbroken = λ n h. line-unbroken (decimal k) (codes "STEPS" ∷ decimal n ∷ []) (words n h);
      read = λ n h. ap (λ ws. Some (number_64 (word_at 2 ws))) (words_of-line (decimal k) (codes "STEPS" ∷ decimal n ∷ []) (words n h)) ∙ ap Some (read-64 n h);
    }

pub phase-law : (k : ℕ) → k < 10 ^ 64 → LineLaw (phase_line k) is_phase_shown phase_said
phase-law k low = record {
  unbroken = λ p h. line-unbroken (decimal k) (kind_words p.0 ++ (codes "AT" ∷ anchor_words p.1)) (words p h);
  read = λ p h. ap (λ ws. phase_of (drop 1 ws)) (words_of-line (decimal k) (kind_words p.0 ++ (codes "AT" ∷ anchor_words p.1)) (words p h)) ∙ phase-read p h;
}
  where
    words : (p : Kind × Anchor) → is_phase_shown p ≡ true → list_all is_word (decimal k ∷ (kind_words p.0 ++ (codes "AT" ∷ anchor_words p.1))) ≡ true
    words p h =
        let parts = and_parts (is_kind_shown p.0) (is_anchor_shown p.1) h in
        and_from (is_word (decimal k)) (list_all is_word (kind_words p.0 ++ (codes "AT" ∷ anchor_words p.1))) (word-decimal k low)
        (list_all-append is_word (kind_words p.0) (codes "AT" ∷ anchor_words p.1) ∙ and_from (list_all is_word (kind_words p.0)) (list_all is_word (anchor_words p.1)) (words-kind p.0 parts.0) (words-anchor p.1 parts.1))

pub step-law : LineLaw step_line is_step_shown step_said
step-law = record {
  unbroken = λ s h. line-unbroken (signed_decimal s.divisor) (map term_word s.terms) (words s h);
  read = λ s h.
      let parts = and_parts _ (list_all is_good_term s.terms) h in
      ap (λ ws. Some (step_of ws)) (words_of-line (signed_decimal s.divisor) (map term_word s.terms) (words s h))
      ∙ ap (λ z. Some (record { divisor = z; terms = map term_of (map term_word s.terms) })) (signed-read s.divisor parts.0)
      ∙ ap (λ ts. Some (record { divisor = s.divisor; terms = ts })) (terms-read s.terms parts.1);
}
  where
    words : (s : Step) → is_step_shown s ≡ true → list_all is_word (signed_decimal s.divisor ∷ map term_word s.terms) ≡ true
    words s h =
        let parts = and_parts _ (list_all is_good_term s.terms) h in
        and_from (is_word (signed_decimal s.divisor)) (list_all is_word (map term_word s.terms)) (word-signed s.divisor parts.0) (words-terms s.terms parts.1)

pub row-law : (k : ℕ) → k < 10 ^ 64 → LineLaw (row_line k) is_row_shown row_said
row-law k low = record {
  unbroken = λ r h. line-unbroken (decimal k) (map (pair_word (codes "P")) r.coefs ++ (codes "<=" ∷ signed_decimal r.bound ∷ [])) (words r h);
  read = λ r h.
      let p = parts r h in
      let coefs = plain-passed 80 (decimal k) (map (pair_word (codes "P")) r.coefs ++ (codes "<=" ∷ signed_decimal r.bound ∷ [])) (plain-decimal k low)
      ∙ pairs-read 80 r.coefs (codes "<=" ∷ signed_decimal r.bound ∷ []) p.0
      ∙ ap (λ qs. r.coefs ++ qs) (plain-passed 80 (codes "<=") (signed_decimal r.bound ∷ []) refl ∙ plain-passed 80 (signed_decimal r.bound) [] (plain-signed r.bound (small-wide r.bound p.1)))
      ∙ append-nil r.coefs in
      let last = ap last_word (ap (λ ws. decimal k ∷ ws) (sym (append_assoc (map (pair_word (codes "P")) r.coefs) (codes "<=" ∷ []) (signed_decimal r.bound ∷ []))))
      ∙ last-word (decimal k ∷ (map (pair_word (codes "P")) r.coefs ++ (codes "<=" ∷ []))) (signed_decimal r.bound) in
      ap (λ ws. Some (row_of ws)) (words_of-line (decimal k) (map (pair_word (codes "P")) r.coefs ++ (codes "<=" ∷ signed_decimal r.bound ∷ [])) (words r h))
      ∙ ap (λ qs. Some (record { coefs = qs; bound = narrow_of (last_word (decimal k ∷ (map (pair_word (codes "P")) r.coefs ++ (codes "<=" ∷ signed_decimal r.bound ∷ [])))) })) coefs
      ∙ ap (λ w. Some (record { coefs = r.coefs; bound = narrow_of w })) last
      ∙ ap (λ z. Some (record { coefs = r.coefs; bound = z })) (narrow-read r.bound p.1);
}
  where
    parts : (r : ConditionRow) → is_row_shown r ≡ true → (list_all is_good_pair r.coefs ≡ true) × (is_small r.bound ≡ true)
    parts r h =
        let last = and_parts (nat_lt 0 (length r.coefs) && rises_above 0 r.coefs && list_all (λ p. is_32 p.0) r.coefs) (is_small r.bound) h in
        let wide = and_parts (nat_lt 0 (length r.coefs) && rises_above 0 r.coefs) (list_all (λ p. is_32 p.0) r.coefs) last.0 in
        let rises = and_parts (nat_lt 0 (length r.coefs)) (rises_above 0 r.coefs) wide.0 in
        (good_pairs 0 r.coefs rises.1 wide.1, last.1)

    words : (r : ConditionRow) → is_row_shown r ≡ true → list_all is_word (decimal k ∷ (map (pair_word (codes "P")) r.coefs ++ (codes "<=" ∷ signed_decimal r.bound ∷ []))) ≡ true
    words r h =
        let p = parts r h in
        and_from (is_word (decimal k)) (list_all is_word (map (pair_word (codes "P")) r.coefs ++ (codes "<=" ∷ signed_decimal r.bound ∷ []))) (word-decimal k low)
        (list_all-append is_word (map (pair_word (codes "P")) r.coefs) (codes "<=" ∷ signed_decimal r.bound ∷ [])
        ∙ and_from (list_all is_word (map (pair_word (codes "P")) r.coefs)) (is_word (signed_decimal r.bound) && true) (words-pairs 80 r.coefs refl p.0) (and_from (is_word (signed_decimal r.bound)) true (word-signed r.bound (small-wide r.bound p.1)) refl))

-- a line that isn't as what it says would be written is refused
pub refuse : {X : Type 0} (line : X → List ℕ) (shown : X → Bool) (said : List ℕ → Option X) → LineLaw line shown said → (text rest behind written : List ℕ) (value : X) (e : PlanSyntax) (taken n : ℕ) →
    e ≡ Line n → n ≡ taken + 1 → is_unbroken text ≡ true → rest ≡ text ++ (10 ∷ behind) → said text ≡ Some value → written ≡ line value → (written ≡ text → ⊥) → RefusesLine line shown rest taken e
refuse line shown said law text rest behind written value e taken n is next whole cut says write differs =
    let alien = alien_line line shown said law text rest behind whole cut (λ x good told same. (let one : x ≡ value = cc in differs (write ∙ ap line (sym one) ∙ same))) in
    let P : PlanSyntax → Type 0 = λ f. RefusesLine line shown rest taken f in
    subst P (sym is) (next, alien)

-- a line that says nothing, or a value that isn't shown, is refused too
pub refuse_unsaid : {X : Type 0} (line : X → List ℕ) (shown : X → Bool) (said : List ℕ → Option X) → LineLaw line shown said → (text rest behind : List ℕ) (e : PlanSyntax) (taken n : ℕ) →
    e ≡ Line n → n ≡ taken + 1 → is_unbroken text ≡ true → rest ≡ text ++ (10 ∷ behind) → ((x : X) → said text ≡ Some x → shown x ≡ false) → RefusesLine line shown rest taken e
refuse_unsaid line shown said law text rest behind e taken n is next whole cut none =
    let alien = alien_line line shown said law text rest behind whole cut (λ x good told same. (let no = none x told in let clash : false ≡ true = sym no ∙ good in cc)) in
    let P : PlanSyntax → Type 0 = λ f. RefusesLine line shown rest taken f in
    subst P (sym is) (next, alien)
