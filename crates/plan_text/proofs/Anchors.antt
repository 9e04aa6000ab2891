-- Forms, anchors and kinds, as words and read from them.
use Rattle.std.proofs.Common.{◌≡◌, ℕ, ◌-◌, ◌<◌, ℤ, pos, negsuc, ◌^◌, Bool, true, false, ◌&&◌, ◌==◌, not, nat_lt, List, [], ◌∷◌, ◌++◌, length, map, Some, None, refl, sym, ap, ◌∙◌, codes, append-nil, append_assoc, length-append, arith}
use Rattle.std.specs.Prelude.{if◌then◌else◌, slice_index_or}
use Rattle.std.specs.Fmt.{decimal, signed_decimal}
use Rattle.std.specs.List.{after_first, list_all}
use Rattle.std.specs.Option.{option_map}
use Rattle.std.specs.Str.{bytes_eq}
use Rattle.std.proofs.lemmas.Bool.{and_from, and_parts}
use Rattle.std.proofs.lemmas.Bool.Decides.{nat_tests}
use Rattle.std.proofs.lemmas.List.Folds.{list_all-append}
use Rattle.nest_tree.specs.Form.{Form, is_form, is_small, rises_above}
use Rattle.owner_partition.specs.declared.anchor.Anchor.{Anchor}
use Rattle.owner_partition.specs.declared.anchor.Dist.{Dist}
use Rattle.owner_partition.specs.declared.anchor.Dist.TheVariants.{Block, Cyclic}
use Rattle.sync_plan.specs.declared.plan.Kind.{Kind}
use Rattle.sync_plan.specs.declared.plan.Kind.TheVariants.{Nothing, Producer, Left, Right, Both, Barrier, Join}
use Rattle.plan_text.specs.Loose.{anchor_of, as_form, both, dist_of, form_of, is_at, kind_of, last_word, number_32, pairs_of, phase_of}
use Rattle.plan_text.specs.PlanText.{is_128, is_32, is_anchor_shown, is_dist_shown, is_form_shown, is_kind_shown, is_phase_shown}
use Rattle.plan_text.specs.Words.{anchor_words, dist_words, form_words, kind_words, pair_word, pair_words}
use Rattle.std.proofs.Math.Seq.{get_or-append_seam}
use Rattle.plan_text.proofs.Numbers.{digits-decimal, is_digit}
use Rattle.plan_text.proofs.Splitting.{after-behind, before-behind, is_word, plain-decimal, plain-signed, word-signed}
use Rattle.plan_text.proofs.PairWords.{is_good_pair, narrow-read, pairs-passed, pairs-read, plain-passed, read-32, small-wide, word-32, words-pairs}

-- the last of words
pub last-word : (words : List (List ℕ)) (w : List ℕ) → last_word (words ++ w ∷ []) ≡ w
last-word words w =
    let long : length (words ++ w ∷ []) - 1 ≡ length words = omega (arith, length-append words (w ∷ [])) in
    ap (λ i. slice_index_or (words ++ w ∷ []) i []) long ∙ get_or-append_seam words w [] []

-- the pairs of a form are good ones
pub good_pairs : (least : ℕ) (ps : List (ℕ × ℤ)) → rises_above least ps ≡ true → list_all (λ p. is_32 p.0) ps ≡ true → list_all is_good_pair ps ≡ true
good_pairs least [] h k = refl
good_pairs least ((n, c) ∷ ps) h k =
    let rises = and_parts (nat_lt least n && nat_lt 0 _ && is_small c) (rises_above n ps) h in
    let small = (and_parts (nat_lt least n && nat_lt 0 _) (is_small c) rises.0).1 in
    let wide = and_parts (is_32 n) (list_all (λ (p : ℕ × ℤ). is_32 p.0) ps) k in
    and_from (is_good_pair (n, c)) (list_all is_good_pair ps) (and_from (is_32 n) (is_small c) wide.0 small) (good_pairs n ps rises.1 wide.1)

pub record FormParts (f : Form) : Type 0 where
  pub good : is_form f ≡ true
  pub small : is_small f.constant ≡ true
  pub loops : list_all is_good_pair f.loops ≡ true
  pub params : list_all is_good_pair f.params ≡ true

pub form_parts : (f : Form) → is_form_shown f ≡ true → FormParts f
form_parts f h =
    let outer = and_parts (is_form f && list_all (λ p. is_32 p.0) f.loops) (list_all (λ p. is_32 p.0) f.params) h in
    let inner = and_parts (is_form f) (list_all (λ p. is_32 p.0) f.loops) outer.0 in
    let form = and_parts (is_small f.constant && rises_above 0 f.loops) (rises_above 0 f.params) inner.0 in
    let first = and_parts (is_small f.constant) (rises_above 0 f.loops) form.0 in
    record { good = inner.0; small = first.0; loops = good_pairs 0 f.loops first.1 inner.1; params = good_pairs 0 f.params form.1 outer.1 }

-- the loops and the named constants of a form's words, with words behind them that are no pairs
loops-read : (f : Form) (rest : List (List ℕ)) → FormParts f → pairs_of 76 (form_words f ++ rest) ≡ f.loops ++ pairs_of 76 rest
loops-read f rest p =
    plain-passed 76 (signed_decimal f.constant) (pair_words f ++ rest) (plain-signed f.constant (small-wide f.constant p.small))
    ∙ ap (pairs_of 76) (append_assoc (map (pair_word (codes "L")) f.loops) (map (pair_word (codes "P")) f.params) rest)
    ∙ pairs-read 76 f.loops (map (pair_word (codes "P")) f.params ++ rest) p.loops
    ∙ ap (λ qs. f.loops ++ qs) (pairs-passed 76 80 f.params rest refl p.params)

params-read : (f : Form) (rest : List (List ℕ)) → FormParts f → pairs_of 80 (form_words f ++ rest) ≡ f.params ++ pairs_of 80 rest
params-read f rest p =
    plain-passed 80 (signed_decimal f.constant) (pair_words f ++ rest) (plain-signed f.constant (small-wide f.constant p.small))
    ∙ ap (pairs_of 80) (append_assoc (map (pair_word (codes "L")) f.loops) (map (pair_word (codes "P")) f.params) rest)
    ∙ pairs-passed 80 76 f.loops (map (pair_word (codes "P")) f.params ++ rest) refl p.loops
    ∙ pairs-read 80 f.params rest p.params

dist-plain : (letter : ℕ) (d : Dist) → is_dist_shown d ≡ true → pairs_of letter (dist_words d) ≡ []
dist-plain letter (Block b) h =
    let low : b < 10 ^ 64 = grind (arith, nat_tests) in
    plain-passed letter (codes "BLOCK") (decimal b ∷ []) refl ∙ plain-passed letter (decimal b) [] (plain-decimal b low)
dist-plain letter Cyclic h = plain-passed letter (codes "CYCLIC") [] refl

pub form-read : (f : Form) (d : Dist) → is_form_shown f ≡ true → is_dist_shown d ≡ true → form_of (form_words f ++ dist_words d) ≡ Some f
form-read f d h k =
    let p = form_parts f h in
    let loops = loops-read f (dist_words d) p ∙ ap (λ qs. f.loops ++ qs) (dist-plain 76 d k) ∙ append-nil f.loops in
    let params = params-read f (dist_words d) p ∙ ap (λ qs. f.params ++ qs) (dist-plain 80 d k) ∙ append-nil f.params in
    ap (λ z. as_form (record { constant = z; loops = pairs_of 76 (form_words f ++ dist_words d); params = pairs_of 80 (form_words f ++ dist_words d) })) (narrow-read f.constant p.small)
    ∙ ap (λ qs. as_form (record { constant = f.constant; loops = qs; params = pairs_of 80 (form_words f ++ dist_words d) })) loops
    ∙ ap (λ qs. as_form (record { constant = f.constant; loops = f.loops; params = qs })) params
    ∙ ap (λ b. if b then Some f else None) p.good

-- a word that begins with no letter differs from one that does
first_low : List ℕ → Bool
first_low [] = true
first_low (b ∷ w) = nat_lt b 65

low_apart : (w : List ℕ) (c : ℕ) (v : List ℕ) → first_low w ≡ true → nat_lt 64 c ≡ true → bytes_eq w (c ∷ v) ≡ false
unfolding first_low
low_apart [] c v h k = refl
low_apart (b ∷ w) c v h k =
    let ne : (b == c) ≡ false = grind (arith, nat_tests) in
    ap (λ t. t && bytes_eq w v) ne

low-digits : (w : List ℕ) → list_all is_digit w ≡ true → first_low w ≡ true
unfolding first_low
low-digits [] h = refl
low-digits (b ∷ w) h = (let parts = and_parts (is_digit b) (list_all is_digit w) h in let here = parts.0 in grind (arith, nat_tests))

low-signed : (z : ℤ) → is_128 z ≡ true → first_low (signed_decimal z) ≡ true
unfolding first_low
low-signed (pos n) h = (let low : n < 10 ^ 64 = grind (arith, nat_tests) in low-digits (decimal n) (digits-decimal n low))
low-signed (negsuc n) h = refl

low-both : (w v : List ℕ) → first_low w ≡ true → first_low v ≡ true → first_low (w ++ v) ≡ true
unfolding first_low
low-both [] v h k = k
low-both (b ∷ w) v h k = h

low-star : (v : List ℕ) → first_low (42 ∷ v) ≡ true
unfolding first_low
low-star v = refl

number-no_word : (b : ℕ) → is_32 b ≡ true → bytes_eq (decimal b) (codes "CYCLIC") ≡ false
number-no_word b h = (let low : b < 10 ^ 64 = grind (arith, nat_tests) in low_apart (decimal b) 67 (89 ∷ 67 ∷ 76 ∷ 73 ∷ 67 ∷ []) (low-digits (decimal b) (digits-decimal b low)) refl)

-- a number is not a word of letters
dist-read : (f : Form) (d : Dist) → is_dist_shown d ≡ true → dist_of (last_word (form_words f ++ dist_words d)) ≡ d
dist-read f (Block b) h =
    let last = ap last_word (sym (append_assoc (form_words f) (codes "BLOCK" ∷ []) (decimal b ∷ []))) ∙ last-word (form_words f ++ codes "BLOCK" ∷ []) (decimal b) in
    ap dist_of last ∙ ap (λ t. if t then Cyclic else Block (number_32 (decimal b))) (number-no_word b h) ∙ ap Block (read-32 b h)
dist-read f Cyclic h = ap dist_of (last-word (form_words f) (codes "CYCLIC"))

pub anchor-read : (a : Anchor) → is_anchor_shown a ≡ true → anchor_of (anchor_words a) ≡ Some a
anchor-read a h =
    let parts = and_parts (is_form_shown a.form) (is_dist_shown a.dist) h in
    ap (option_map (λ f. record { form = f; dist = dist_of (last_word (anchor_words a)) })) (form-read a.form a.dist parts.0 parts.1)
    ∙ ap (λ d. Some (record { form = a.form; dist = d })) (dist-read a.form a.dist parts.1)

-- no word of an anchor or of a kind is AT
abbrev no_at : List (List ℕ) → Bool
no_at words = list_all (λ w. not (is_at w)) words

not_at : (w : List ℕ) → first_low w ≡ true → not (is_at w) ≡ true
not_at w h = ap not (low_apart w 65 (84 ∷ []) h refl)

no_at-pairs : (letter : List ℕ) (ps : List (ℕ × ℤ)) → list_all is_good_pair ps ≡ true → no_at (map (pair_word letter) ps) ≡ true
no_at-pairs letter [] h = refl
no_at-pairs letter ((n, c) ∷ ps) h =
    let parts = and_parts (is_good_pair (n, c)) (list_all is_good_pair ps) h in
    let small = (and_parts (is_32 n) (is_small c) parts.0).1 in
    and_from (not (is_at (pair_word letter (n, c)))) (no_at (map (pair_word letter) ps))
    (not_at (pair_word letter (n, c)) (low-both (signed_decimal c) (42 ∷ (letter ++ decimal n)) (low-signed c (small-wide c small)) (low-star (letter ++ decimal n))))
    (no_at-pairs letter ps parts.1)

no_at-dist : (d : Dist) → is_dist_shown d ≡ true → no_at (dist_words d) ≡ true
no_at-dist (Block b) h = (let low : b < 10 ^ 64 = grind (arith, nat_tests) in and_from (not (is_at (decimal b))) true (not_at (decimal b) (low-digits (decimal b) (digits-decimal b low))) refl)
no_at-dist Cyclic h = refl

no_at-anchor : (a : Anchor) → is_anchor_shown a ≡ true → no_at (anchor_words a) ≡ true
no_at-anchor a h =
    let parts = and_parts (is_form_shown a.form) (is_dist_shown a.dist) h in
    let p = form_parts a.form parts.0 in
    let test = λ (w : List ℕ). not (is_at w) in
    let loops = map (pair_word (codes "L")) a.form.loops in
    let params = map (pair_word (codes "P")) a.form.params in
    list_all-append test (form_words a.form) (dist_words a.dist)
    ∙ and_from (no_at (form_words a.form)) (no_at (dist_words a.dist))
    (and_from (not (is_at (signed_decimal a.form.constant))) (no_at (pair_words a.form)) (not_at (signed_decimal a.form.constant) (low-signed a.form.constant (small-wide a.form.constant p.small)))
    (list_all-append test loops params ∙ and_from (no_at loops) (no_at params) (no_at-pairs (codes "L") a.form.loops p.loops) (no_at-pairs (codes "P") a.form.params p.params)))
    (no_at-dist a.dist parts.1)

no_at-kind : (k : Kind) → is_kind_shown k ≡ true → no_at (kind_words k) ≡ true
no_at-kind Nothing h = refl
no_at-kind (Producer a) h = no_at-anchor a h
no_at-kind Left h = refl
no_at-kind Right h = refl
no_at-kind Both h = refl
no_at-kind Barrier h = refl
no_at-kind Join h = refl

pub kind-read : (k : Kind) → is_kind_shown k ≡ true → kind_of (kind_words k) ≡ Some k
kind-read Nothing h = refl
kind-read (Producer a) h = ap (option_map Producer) (anchor-read a h)
kind-read Left h = refl
kind-read Right h = refl
kind-read Both h = refl
kind-read Barrier h = refl
kind-read Join h = refl

pub phase-read : (p : Kind × Anchor) → is_phase_shown p ≡ true → phase_of (kind_words p.0 ++ (codes "AT" ∷ anchor_words p.1)) ≡ Some p
phase-read (k, a) h =
    let parts = and_parts (is_kind_shown k) (is_anchor_shown a) h in
    let none = no_at-kind k parts.0 in
    let before = before-behind is_at (kind_words k) (codes "AT") (anchor_words a) none refl in
    let after = after-behind is_at (kind_words k) (codes "AT") (anchor_words a) none refl in
    ap (λ ws. both (kind_of ws) (anchor_of (after_first is_at (kind_words k ++ (codes "AT" ∷ anchor_words a))))) before
    ∙ ap (λ ws. both (kind_of (kind_words k)) (anchor_of ws)) after
    ∙ ap (λ o. both o (anchor_of (anchor_words a))) (kind-read k parts.0) ∙ ap (both (Some k)) (anchor-read a parts.1)

-- the words of each
pub words-form : (f : Form) → is_form_shown f ≡ true → list_all is_word (form_words f) ≡ true
words-form f h =
    let p = form_parts f h in
    and_from (is_word (signed_decimal f.constant)) (list_all is_word (pair_words f)) (word-signed f.constant (small-wide f.constant p.small))
    (list_all-append is_word (map (pair_word (codes "L")) f.loops) (map (pair_word (codes "P")) f.params)
    ∙ and_from (list_all is_word (map (pair_word (codes "L")) f.loops)) (list_all is_word (map (pair_word (codes "P")) f.params)) (words-pairs 76 f.loops refl p.loops) (words-pairs 80 f.params refl p.params))

words-dist : (d : Dist) → is_dist_shown d ≡ true → list_all is_word (dist_words d) ≡ true
words-dist (Block b) h = and_from (is_word (decimal b)) true (word-32 b h) refl
words-dist Cyclic h = refl

pub words-anchor : (a : Anchor) → is_anchor_shown a ≡ true → list_all is_word (anchor_words a) ≡ true
words-anchor a h =
    let parts = and_parts (is_form_shown a.form) (is_dist_shown a.dist) h in
    list_all-append is_word (form_words a.form) (dist_words a.dist)
    ∙ and_from (list_all is_word (form_words a.form)) (list_all is_word (dist_words a.dist)) (words-form a.form parts.0) (words-dist a.dist parts.1)

pub words-kind : (k : Kind) → is_kind_shown k ≡ true → list_all is_word (kind_words k) ≡ true
words-kind Nothing h = refl
words-kind (Producer a) h = words-anchor a h
words-kind Left h = refl
words-kind Right h = refl
words-kind Both h = refl
words-kind Barrier h = refl
words-kind Join h = refl

-- a number of rows isn't VALUES
pub count-no_values : (n : ℕ) → is_32 n ≡ true → bytes_eq (decimal n ++ []) (codes "VALUES") ≡ false
count-no_values n h =
    let low : n < 10 ^ 64 = grind (arith, nat_tests) in
    ap (λ w. bytes_eq w (codes "VALUES")) (append-nil (decimal n)) ∙ low_apart (decimal n) 86 (65 ∷ 76 ∷ 85 ∷ 69 ∷ 83 ∷ []) (low-digits (decimal n) (digits-decimal n low)) refl
