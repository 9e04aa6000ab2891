-- What a line says is shown, as far as its numbers are concerned.
use Rattle.std.proofs.Common.{◌≡◌, ℕ, ◌-◌, ◌%◌, ◌<◌, ◌^◌, ℤ, pos, negsuc, Bool, true, false, ◌&&◌, ◌==◌, not, nat_lt, nat_le, List, [], ◌∷◌, length, map, drop, Option, Some, None, refl, sym, ap, ◌∙◌, codes, arith}
use Rattle.std.specs.Prelude.{if◌then◌else◌}
use Rattle.std.specs.List.{after_first, before_first, cons_option, list_all}
use Rattle.std.specs.Option.{option_map}
use Rattle.std.specs.Str.{bytes_eq}
use Rattle.std.proofs.lemmas.Bool.{and_from, and_parts}
use Rattle.std.proofs.lemmas.Bool.Decides.{nat_tests}
use Rattle.nest_tree.specs.Form.{Form, is_form, is_small, rises_above}
use Rattle.owner_partition.specs.declared.anchor.Anchor.{Anchor}
use Rattle.owner_partition.specs.declared.anchor.Dist.TheVariants.{Block, Cyclic}
use Rattle.sync_plan.specs.declared.plan.ConditionRow.{ConditionRow}
use Rattle.sync_plan.specs.declared.plan.Kind.{Kind}
use Rattle.sync_plan.specs.declared.plan.Kind.TheVariants.{Nothing, Producer, Left, Right, Both, Barrier, Join}
use Rattle.sync_plan.specs.Kinds.{plain_kind}
use Rattle.plan_text.specs.Loose.{after_star, anchor_of, before_star, both, dist_of, form_of, is_at, kept, kind_of, last_word, loop_of, narrow_of, negated, number_32, number_64, number_of, pair_behind, pairs_of, phase_of, private_of, row_of, signed_of, step_of, term_of, word_at}
use Rattle.plan_text.specs.PlanText.{is_128, is_32, is_64, is_anchor_shown, is_dist_shown, is_form_shown, is_kind_shown, is_phase_shown, is_row_shown, is_step_shown}

shown-32 : (w : List ℕ) → is_32 (number_32 w) ≡ true
shown-32 w = (let low : number_of w % 2 ^ 32 < 2 ^ 32 = omega arith in grind (arith, nat_tests))

shown-64 : (w : List ℕ) → is_64 (number_64 w) ≡ true
shown-64 w = (let low : number_of w % 2 ^ 64 < 2 ^ 64 = omega arith in grind (arith, nat_tests))

shown-negated : (n : ℕ) → is_128 (negated n) ≡ true
shown-negated n = by_case (nat_lt 0 n && nat_le n (2 ^ 127)) refl
  where
    by_case : (b : Bool) → (nat_lt 0 n && nat_le n (2 ^ 127)) ≡ b → is_128 (if b then negsuc (n - 1) else pos 0) ≡ true
    by_case true e = (let parts = and_parts (nat_lt 0 n) (nat_le n (2 ^ 127)) e in let some = parts.0 in let most = parts.1 in grind (arith, nat_tests))
    by_case false e = refl

shown-kept : (n : ℕ) → is_128 (kept n) ≡ true
shown-kept n = by_case (nat_lt n (2 ^ 127)) refl
  where
    by_case : (b : Bool) → nat_lt n (2 ^ 127) ≡ b → is_128 (if b then pos n else pos 0) ≡ true
    by_case true e = e
    by_case false e = refl

shown-signed : (w : List ℕ) → is_128 (signed_of w) ≡ true
shown-signed [] = refl
shown-signed (c ∷ cs) = elim (c == 45) as (λ b. is_128 (if b then negated (number_of cs) else kept (number_of (c ∷ cs))) ≡ true) [ true ↦ shown-negated (number_of cs) | false ↦ shown-kept (number_of (c ∷ cs)) ]

-- private scalars
shown-privates : (words : List (List ℕ)) → list_all is_32 (map private_of words) ≡ true
shown-privates [] = refl
shown-privates (w ∷ words) = and_from (is_32 (private_of w)) (list_all is_32 (map private_of words)) (shown-32 (drop 1 w)) (shown-privates words)

pub shown-loop : (words : List (List ℕ)) → list_all is_32 (loop_of words).1 ≡ true
shown-loop words = shown-privates (drop 3 words)

-- pairs
pub shown-pairs : (letter : ℕ) (words : List (List ℕ)) → list_all (λ p. is_32 p.0) (pairs_of letter words) ≡ true
shown-pairs letter [] = refl
shown-pairs letter (w ∷ words) = one (narrow_of (before_star w)) (after_star w) (shown-pairs letter words)
  where
    one : (c : ℤ) (behind : List ℕ) → list_all (λ p. is_32 p.0) (pairs_of letter words) ≡ true → list_all (λ p. is_32 p.0) (cons_option (pair_behind letter c behind) (pairs_of letter words)) ≡ true
    one c [] rest = rest
    one c (l ∷ digits) rest = elim (l == letter) as (λ b. list_all (λ p. is_32 p.0) (cons_option (if b then Some (number_32 digits, c) else None) (pairs_of letter words)) ≡ true)
        [ true ↦ and_from (is_32 (number_32 digits)) (list_all (λ p. is_32 p.0) (pairs_of letter words)) (shown-32 digits) rest | false ↦ rest ]

shown-form : (words : List (List ℕ)) (f : Form) → form_of words ≡ Some f → is_form_shown f ≡ true
shown-form words f e =
    let g : Form = record { constant = narrow_of (word_at 0 words); loops = pairs_of 76 words; params = pairs_of 80 words } in
    by_case g (shown-pairs 76 words) (shown-pairs 80 words) (is_form g) refl e
  where
    by_case : (g : Form) → list_all (λ p. is_32 p.0) g.loops ≡ true → list_all (λ p. is_32 p.0) g.params ≡ true → (b : Bool) → is_form g ≡ b → (if b then Some g else None) ≡ Some f → is_form_shown f ≡ true
    by_case g l p true good is =
        (let same : g ≡ f = cc in
        ap is_form_shown (sym same) ∙ and_from (is_form g && list_all (λ p. is_32 p.0) g.loops) (list_all (λ p. is_32 p.0) g.params) (and_from (is_form g) (list_all (λ p. is_32 p.0) g.loops) good l) p)
    by_case g l p false good is = absurd (cc)

shown-dist : (w : List ℕ) → is_dist_shown (dist_of w) ≡ true
shown-dist w = elim (bytes_eq w (codes "CYCLIC")) as (λ b. is_dist_shown (if b then Cyclic else Block (number_32 w)) ≡ true) [ true ↦ refl | false ↦ shown-32 w ]

shown-anchor : (words : List (List ℕ)) (a : Anchor) → anchor_of words ≡ Some a → is_anchor_shown a ≡ true
shown-anchor words a e = by_case (form_of words) refl e
  where
    by_case : (o : Option Form) → form_of words ≡ o → option_map (λ f. record { form = f; dist = dist_of (last_word words) }) o ≡ Some a → is_anchor_shown a ≡ true
    by_case None is eq = absurd (cc)
    by_case (Some f) is eq =
        (let b : Anchor = record { form = f; dist = dist_of (last_word words) } in
        let same : b ≡ a = cc in
        ap is_anchor_shown (sym same) ∙ and_from (is_form_shown f) (is_dist_shown (dist_of (last_word words))) (shown-form words f is) (shown-dist (last_word words)))

shown-plain : (w : List ℕ) → is_kind_shown (plain_kind w) ≡ true
shown-plain w =
    elim (bytes_eq w (codes "NOTHING")) as (λ b. is_kind_shown (if b then Nothing else if bytes_eq w (codes "LEFT") then Left else if bytes_eq w (codes "RIGHT") then Right else if bytes_eq w (codes "BOTH") then Both else if bytes_eq w (codes "BARRIER") then Barrier else Join) ≡ true) [
      | true ↦ refl
      | false ↦
          elim (bytes_eq w (codes "LEFT")) as (λ b. is_kind_shown (if b then Left else if bytes_eq w (codes "RIGHT") then Right else if bytes_eq w (codes "BOTH") then Both else if bytes_eq w (codes "BARRIER") then Barrier else Join) ≡ true) [
            | true ↦ refl
            | false ↦
                elim (bytes_eq w (codes "RIGHT")) as (λ b. is_kind_shown (if b then Right else if bytes_eq w (codes "BOTH") then Both else if bytes_eq w (codes "BARRIER") then Barrier else Join) ≡ true) [
                  | true ↦ refl
                  | false ↦
                      elim (bytes_eq w (codes "BOTH")) as (λ b. is_kind_shown (if b then Both else if bytes_eq w (codes "BARRIER") then Barrier else Join) ≡ true) [
                        | true ↦ refl
                        | false ↦
                            elim (bytes_eq w (codes "BARRIER")) as (λ b. is_kind_shown (if b then Barrier else Join) ≡ true) [ true ↦ refl | false ↦ refl ]
                      ]
                ]
          ]
    ]

shown-kind : (words : List (List ℕ)) (k : Kind) → kind_of words ≡ Some k → is_kind_shown k ≡ true
shown-kind words k e = by_case (bytes_eq (word_at 0 words) (codes "PRODUCER")) e
  where
    produced : (o : Option Anchor) → anchor_of (drop 1 words) ≡ o → option_map Producer o ≡ Some k → is_kind_shown k ≡ true
    produced None is eq = absurd (cc)
    produced (Some a) is eq = (let same : Producer a ≡ k = cc in ap is_kind_shown (sym same) ∙ shown-anchor (drop 1 words) a is)

    by_case : (b : Bool) → (if b then option_map Producer (anchor_of (drop 1 words)) else Some (plain_kind (word_at 0 words))) ≡ Some k → is_kind_shown k ≡ true
    by_case true eq = produced (anchor_of (drop 1 words)) refl eq
    by_case false eq = (let same : plain_kind (word_at 0 words) ≡ k = cc in ap is_kind_shown (sym same) ∙ shown-plain (word_at 0 words))

pub shown-phase : (words : List (List ℕ)) (p : Kind × Anchor) → phase_of words ≡ Some p → is_phase_shown p ≡ true
shown-phase words p e = by_case (kind_of (before_first is_at words)) (anchor_of (after_first is_at words)) refl refl e
  where
    by_case : (k : Option Kind) (a : Option Anchor) → kind_of (before_first is_at words) ≡ k → anchor_of (after_first is_at words) ≡ a → both k a ≡ Some p → is_phase_shown p ≡ true
    by_case None a is there eq = absurd (cc)
    by_case (Some k) None is there eq = absurd (cc)
    by_case (Some k) (Some a) is there eq =
        (let q : Kind × Anchor = (k, a) in
        let same : q ≡ p = cc in
        ap is_phase_shown (sym same) ∙ and_from (is_kind_shown k) (is_anchor_shown a) (shown-kind (before_first is_at words) k is) (shown-anchor (after_first is_at words) a there))

shown-terms : (words : List (List ℕ)) → list_all (λ t. is_64 t.0 && is_128 t.1) (map term_of words) ≡ true
shown-terms [] = refl
shown-terms (w ∷ words) = and_from (is_64 (number_64 (before_star w)) && is_128 (signed_of (after_star w))) (list_all (λ t. is_64 t.0 && is_128 t.1) (map term_of words)) (and_from (is_64 (number_64 (before_star w))) (is_128 (signed_of (after_star w))) (shown-64 (before_star w)) (shown-signed (after_star w))) (shown-terms words)

pub shown-step : (words : List (List ℕ)) → is_step_shown (step_of words) ≡ true
shown-step words = and_from (is_128 (signed_of (word_at 0 words))) (list_all (λ t. is_64 t.0 && is_128 t.1) (map term_of (drop 1 words))) (shown-signed (word_at 0 words)) (shown-terms (drop 1 words))

-- a row of conditions is shown where its pairs are some and rise, and its bound is small
abbrev pub row_tested : ConditionRow → Bool
row_tested row = not (length row.coefs == 0) && rises_above 0 row.coefs && is_small row.bound

pub shown-row : (words : List (List ℕ)) → is_row_shown (row_of words) ≡ row_tested (row_of words)
shown-row words =
    let coefs = (row_of words).coefs in
    some coefs ∙ ap (λ b. not (length coefs == 0) && rises_above 0 coefs && b && is_small (row_of words).bound) (shown-pairs 80 words) ∙ drop_true (not (length coefs == 0)) (rises_above 0 coefs)
  where
    some : (coefs : List (ℕ × ℤ)) → (nat_lt 0 (length coefs) && rises_above 0 coefs && list_all (λ p. is_32 p.0) coefs && is_small (row_of words).bound) ≡ (not (length coefs == 0) && rises_above 0 coefs && list_all (λ p. is_32 p.0) coefs && is_small (row_of words).bound)
    some [] = refl
    some (c ∷ coefs) =
        (let e : nat_lt 0 (length (c ∷ coefs)) ≡ not (length (c ∷ coefs) == 0) = grind (arith, nat_tests) in
        ap (λ b. b && rises_above 0 (c ∷ coefs) && list_all (λ p. is_32 p.0) (c ∷ coefs) && is_small (row_of words).bound) e)

    drop_true : (a b : Bool) → (a && b && true && is_small (row_of words).bound) ≡ (a && b && is_small (row_of words).bound)
    drop_true true true = refl
    drop_true true false = refl
    drop_true false b = refl
