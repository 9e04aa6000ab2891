-- A made plan has a text.
use Rattle.std.proofs.Common.{◌≡◌, ℕ, ◌&&◌, ◌||◌, ◌==◌, ◌≤◌, not, Bool, true, false, List, [], ◌∷◌, ◌++◌, length, Option, Some, None, inl, inr, refl, ap, sym, ◌∙◌, subst, arith}
use Rattle.std.specs.Prelude.{ℤ, is_some, nat_lt, if◌then◌else◌}
use Rattle.std.specs.List.{list_all, list_any}
use Rattle.std.specs.Option.{option_map_or}
use Rattle.std.proofs.lemmas.Bool.{and_from, and_parts, cases_Bool, or_left, or_parts, or_right}
use Rattle.std.proofs.lemmas.Bool.Decides.{nat_tests}
use Rattle.std.proofs.lemmas.List.Folds.{list_all-append}
use Rattle.nest_tree.specs.Form.{is_form}
use Rattle.nest_tree.specs.Tree.{Statement, Statements, do_loop, work, continue, done, next, Tree}
use Rattle.nest_tree.specs.WellFormed.{IsWellFormed, is_number_of, names_only}
use Rattle.nest_walk.specs.Texts.{Placed}
use Rattle.owner_partition.specs.Cuts.{Cutting}
use Rattle.owner_partition.specs.Marks.{is_doall, is_sum_mark}
use Rattle.owner_partition.specs.declared.anchor.Anchor.{Anchor}
use Rattle.owner_partition.specs.declared.cut.Mark.{Mark}
use Rattle.sync_plan.proofs.Fits.{fit_parts}
use Rattle.sync_plan.specs.Barriers.{least_version}
use Rattle.sync_plan.specs.Fit.{IsFit}
use Rattle.sync_plan.specs.Kinds.{anchor_in}
use Rattle.sync_plan.specs.Shape.{are_good_anchors, are_good_kinds, has_places, has_privates, has_sums, is_good_anchor, is_good_kind, own_loops, static_phases}
use Rattle.sync_plan.specs.declared.plan.Conditions.TheVariants.{Values}
use Rattle.sync_plan.specs.declared.plan.Kind.{Kind}
use Rattle.sync_plan.specs.declared.plan.Plan.{Plan}
use Rattle.sync_plan.specs.declared.plan.Version.{Version}
use Rattle.sync_plan.specs.declared.plan.Version.TheVariants.{Two, Four, Five}
use Rattle.plan_maker.proofs.DealtPhases.{tried_dealt}
use Rattle.plan_maker.proofs.Marked.{marks_count_in}
use Rattle.plan_maker.proofs.Standing.{privates_count_in}
use Rattle.plan_maker.specs.Bars.{IsReasonedCut}
use Rattle.maker_marks.specs.Marks.{have_free, has_free, inner_of, marks_by, marks_in, marks_of}
use Rattle.plan_maker.specs.Numbers as numbers
use Rattle.maker_marks.specs.Privates.{none_in, none_of, privates_by, privates_in, privates_of}
use Rattle.maker_marks.specs.Tries.{tried_mark}
use Rattle.maker_marks.specs.declared.tries.Tried.{Tried}
use Rattle.plan_text.proofs.Counts.{counts_of_fit}
use Rattle.plan_text.proofs.Written.{zipped-length}
use Rattle.plan_text.specs.PlanText.{HasText, cut_loops, has_loop, is_32, is_64, is_anchor_shown, is_certificate_shown, is_dist_shown, is_form_shown, is_kind_shown, is_loop_shown, is_phase_shown, zipped}
use Rattle.plan_text.proofs.Splitting.{weaken}

-- ---- lists of which each element passes a test

both : {X : Type 0} (p q : X → Bool) (xs : List X) → list_all p xs ≡ true → list_all q xs ≡ true → list_all (λ x. p x && q x) xs ≡ true
both p q [] h k = refl
both p q (x ∷ xs) h k =
    let here = and_parts (p x) (list_all p xs) h in
    let there = and_parts (q x) (list_all q xs) k in
    and_from (p x && q x) (list_all (λ y. p y && q y) xs) (and_from (p x) (q x) here.0 there.0) (both p q xs here.1 there.1)

-- where one has a property, another fact holds
none_else : {X : Type 0} (p : X → Bool) (v : Bool) (xs : List X) → (list_any p xs ≡ true → v ≡ true) → list_all (λ x. not (p x) || v) xs ≡ true
none_else p v [] h = refl
none_else p v (x ∷ xs) h =
    let rest = none_else p v xs (λ e. h (or_right (p x) (list_any p xs) e)) in
    elim (cases_Bool (p x)) [
      | inl here ↦ and_from (not (p x) || v) (list_all (λ y. not (p y) || v) xs) (or_right (not (p x)) v (h (or_left (p x) (list_any p xs) here))) rest
      | inr there ↦ and_from (not (p x) || v) (list_all (λ y. not (p y) || v) xs) (or_left (not (p x)) v (ap not there)) rest
    ]

module _ {X Y : Type 0} where
  zipped_first : (p : X → Bool) (xs : List X) (ys : List Y) → list_all p xs ≡ true → list_all (λ (z : X × Y). p z.0) (zipped xs ys) ≡ true
  zipped_first p [] ys h = refl
  zipped_first p (x ∷ xs) [] h = refl
  zipped_first p (x ∷ xs) (y ∷ ys) h =
      let parts = and_parts (p x) (list_all p xs) h in
      and_from (p x) (list_all (λ (z : X × Y). p z.0) (zipped xs ys)) parts.0 (zipped_first p xs ys parts.1)

  zipped_second : (q : Y → Bool) (xs : List X) (ys : List Y) → list_all q ys ≡ true → list_all (λ (z : X × Y). q z.1) (zipped xs ys) ≡ true
  zipped_second q [] ys h = refl
  zipped_second q (x ∷ xs) [] h = refl
  zipped_second q (x ∷ xs) (y ∷ ys) h =
      let parts = and_parts (q y) (list_all q ys) h in
      and_from (q y) (list_all (λ (z : X × Y). q z.1) (zipped xs ys)) parts.0 (zipped_second q xs ys parts.1)

  zipped_joined : (p : X × Y → Bool) (us xs : List X) (vs ys : List Y) → length us ≡ length vs → list_all p (zipped us vs) ≡ true → list_all p (zipped xs ys) ≡ true → list_all p (zipped (us ++ xs) (vs ++ ys)) ≡ true
  zipped_joined p [] xs [] ys long h k = k
  zipped_joined p [] xs (v ∷ vs) ys long h k = absurd (omega (arith, long))
  zipped_joined p (u ∷ us) xs [] ys long h k = absurd (omega (arith, long))
  zipped_joined p (u ∷ us) xs (v ∷ vs) ys long h k =
      let parts = and_parts (p (u, v)) (list_all p (zipped us vs)) h in
      and_from (p (u, v)) (list_all p (zipped (us ++ xs) (vs ++ ys))) parts.0 (zipped_joined p us xs vs ys (omega (arith, long)) parts.1 k)

-- ---- forms

form_good : (constants : ℕ) (around : List ℕ) (a : Anchor) → is_good_anchor constants around a ≡ true → is_form a.form ≡ true
form_good constants around a good =
    let loops = list_all (λ (p : ℕ × ℤ). list_any (λ l. l == p.0) around) a.form.loops in
    let params = list_all (λ (p : ℕ × ℤ). is_number_of constants p.0) a.form.params in
    let named = and_parts (names_only constants around a.form) (has_places a.dist) good in
    (and_parts (is_form a.form) loops (and_parts (is_form a.form && loops) params named.0).0).0

anchor_shown : (a : Anchor) → is_form a.form ≡ true → numbers.is_anchor_held a ≡ true → is_anchor_shown a ≡ true
anchor_shown a form shown =
    let loops = list_all numbers.is_pair_held a.form.loops in
    let params = list_all numbers.is_pair_held a.form.params in
    let last = and_parts (loops && params) (is_dist_shown a.dist) shown in
    let first = and_parts loops params last.0 in
    and_from (is_form_shown a.form) (is_dist_shown a.dist) (and_from (is_form a.form && loops) params (and_from (is_form a.form) loops form first.0) first.1) last.1

anchors_shown : (constants : ℕ) (marks : List Mark) (text : List Placed) (anchors : List Anchor) → length anchors ≡ length text → are_good_anchors constants marks text anchors ≡ true → list_all numbers.is_anchor_held anchors ≡ true → list_all is_anchor_shown anchors ≡ true
anchors_shown constants marks text [] long good shown = refl
anchors_shown constants marks [] (a ∷ anchors) long good shown = absurd (omega (arith, long))
anchors_shown constants marks (s ∷ text) (a ∷ anchors) long good shown =
    let around = own_loops marks s.what s.around in
    let goods = and_parts (is_good_anchor constants around a) (are_good_anchors constants marks text anchors) good in
    let parts = and_parts (numbers.is_anchor_held a) (list_all numbers.is_anchor_held anchors) shown in
    and_from (is_anchor_shown a) (list_all is_anchor_shown anchors) (anchor_shown a (form_good constants around a goods.0) parts.0) (anchors_shown constants marks text anchors (omega (arith, long)) goods.1 parts.1)

kind_shown : (constants : ℕ) (around : List ℕ) (o : Option Anchor) → option_map_or (is_good_anchor constants around) o true ≡ true → option_map_or numbers.is_anchor_held o true ≡ true → option_map_or is_anchor_shown o true ≡ true
kind_shown constants around None good shown = refl
kind_shown constants around (Some a) good shown = anchor_shown a (form_good constants around a good) shown

kinds_shown : (constants : ℕ) (text : List Placed) (kinds : List Kind) → length kinds ≡ length text → are_good_kinds constants text kinds ≡ true → list_all numbers.is_kind_held kinds ≡ true → list_all is_kind_shown kinds ≡ true
kinds_shown constants text [] long good shown = refl
kinds_shown constants [] (k ∷ kinds) long good shown = absurd (omega (arith, long))
kinds_shown constants (s ∷ text) (k ∷ kinds) long good shown =
    let goods = and_parts (is_good_kind constants s.around k) (are_good_kinds constants text kinds) good in
    let parts = and_parts (numbers.is_kind_held k) (list_all numbers.is_kind_held kinds) shown in
    and_from (is_kind_shown k) (list_all is_kind_shown kinds) (kind_shown constants s.around (anchor_in k) goods.0 parts.0) (kinds_shown constants text kinds (omega (arith, long)) goods.1 parts.1)

-- ---- a loop with private scalars is dealt out

abbrev has_none : List ℕ → Bool
has_none vs = length vs == 0

abbrev may_have : Mark × List ℕ → Bool
may_have l = has_none l.1 || is_doall l.0

joined : (us vs : List (List ℕ)) → list_all has_none us ≡ true → list_all has_none vs ≡ true → list_all has_none (us ++ vs) ≡ true
joined us vs h k = list_all-append has_none us vs ∙ and_from (list_all has_none us) (list_all has_none vs) h k

mutual
  none_have_in : (s : Statement) → list_all has_none (none_in s) ≡ true
  none_have_in (do_loop head body) = none_have body
  none_have_in (work w) = refl
  none_have_in (continue line) = refl

  none_have : (ss : Statements) → list_all has_none (none_of ss) ≡ true
  none_have done = refl
  none_have (next s rest) = joined (none_in s) (none_of rest) (none_have_in s) (none_have rest)

without : (ms : List Mark) (vs : List (List ℕ)) → list_all has_none vs ≡ true → list_all may_have (zipped ms vs) ≡ true
without ms vs h = weaken (λ (l : Mark × List ℕ). has_none l.1) may_have (λ l e. or_left (has_none l.1) (is_doall l.0) e) (zipped ms vs) (zipped_second has_none ms vs h)

module _ (dealt : ℕ → Option Tried) (own : ℕ → List ℕ) where
  closed_loop : (o : Option Tried) (vs : List ℕ) (body : Statements) (inside : List (List ℕ)) → is_some o ≡ false → list_all has_none inside ≡ true → list_all has_none (privates_by o vs body inside) ≡ true
  closed_loop (Some t) vs body inside none h = absurd (let no : true ≡ false = none in cc)
  closed_loop None vs body inside none h = h

  mutual
    closed_in : (s : Statement) → has_free dealt s ≡ false → list_all has_none (privates_in dealt own s) ≡ true
    closed_in (do_loop head body) none =
        let parts = or_parts (is_some (dealt head.number)) (have_free dealt body) none in
        closed_loop (dealt head.number) (own head.number) body (privates_of dealt own body) parts.0 (closed_of body parts.1)
    closed_in (work w) none = refl
    closed_in (continue line) none = refl

    closed_of : (ss : Statements) → have_free dealt ss ≡ false → list_all has_none (privates_of dealt own ss) ≡ true
    closed_of done none = refl
    closed_of (next s rest) none =
        let parts = or_parts (has_free dealt s) (have_free dealt rest) none in
        joined (privates_in dealt own s) (privates_of dealt own rest) (closed_in s parts.0) (closed_of rest parts.1)

  loop_may : (o : Option Tried) (vs : List ℕ) (free : Bool) (body : Statements) → (free ≡ false → list_all has_none (privates_of dealt own body) ≡ true) → list_all may_have (zipped (marks_of dealt body) (privates_of dealt own body)) ≡ true →
      list_all may_have (zipped (marks_by o free body (marks_of dealt body)) (privates_by o vs body (privates_of dealt own body))) ≡ true
  loop_may (Some t) vs free body closed inside =
      and_from (may_have (tried_mark t, vs)) (list_all may_have (zipped (inner_of body) (none_of body)))
      (or_right (has_none vs) (is_doall (tried_mark t)) (tried_dealt t)) (without (inner_of body) (none_of body) (none_have body))
  loop_may None vs true body closed inside = inside
  loop_may None vs false body closed inside = without (inner_of body) (privates_of dealt own body) (closed refl)

  mutual
    may_in : (s : Statement) → list_all may_have (zipped (marks_in dealt s) (privates_in dealt own s)) ≡ true
    may_in (do_loop head body) = loop_may (dealt head.number) (own head.number) (have_free dealt body) body (closed_of body) (may_of body)
    may_in (work w) = refl
    may_in (continue line) = refl

    may_of : (ss : Statements) → list_all may_have (zipped (marks_of dealt ss) (privates_of dealt own ss)) ≡ true
    may_of done = refl
    may_of (next s rest) =
        zipped_joined may_have (marks_in dealt s) (marks_of dealt rest) (privates_in dealt own s) (privates_of dealt own rest) (marks_count_in dealt s ∙ sym (privates_count_in dealt own s)) (may_in s) (may_of rest)

-- ---- the version shows the loops

abbrev some_privates : List ℕ → Bool
some_privates vs = nat_lt 0 (length vs)

sums_in : (b c : Bool) → c ≡ true → has_sums (if b then Five else if c then Four else Two) ≡ true
sums_in true c h = refl
sums_in false true h = refl
sums_in false false h = absurd (cc)

privates_in_version : (b c : Bool) → b ≡ true → has_privates (if b then Five else if c then Four else Two) ≡ true
privates_in_version true c h = refl
privates_in_version false c h = absurd (cc)

loop_shown : (version : Version) (mark : Mark) (vs : List ℕ) → (not (is_sum_mark mark) || has_sums version) ≡ true → (not (some_privates vs) || has_privates version) ≡ true → may_have (mark, vs) ≡ true → has_loop version (mark, vs) ≡ true
loop_shown version mark [] sums privates may = and_from (not (is_sum_mark mark) || has_sums version) true sums refl
loop_shown version mark (v ∷ vs) sums privates may =
    let some : some_privates (v ∷ vs) ≡ true = grind (arith, nat_tests) in
    let none : has_none (v ∷ vs) ≡ false = grind (arith, nat_tests) in
    let has : has_privates version ≡ true = ap (λ b. not b || has_privates version) (sym some) ∙ privates in
    let doall : is_doall mark ≡ true = ap (λ b. b || is_doall mark) (sym none) ∙ may in
    and_from (not (is_sum_mark mark) || has_sums version) (has_none (v ∷ vs) || (has_privates version && is_doall mark)) sums
    (or_right (has_none (v ∷ vs)) (has_privates version && is_doall mark) (and_from (has_privates version) (is_doall mark) has doall))

all_loops : (cut : Cutting) → list_all may_have (cut_loops cut) ≡ true → list_all (list_all is_32) cut.privates ≡ true → list_all (is_loop_shown (least_version cut)) (cut_loops cut) ≡ true
all_loops cut may shown =
    let version = least_version cut in
    let of_mark = λ (m : Mark). not (is_sum_mark m) || has_sums version in
    let of_scalars = λ (vs : List ℕ). not (some_privates vs) || has_privates version in
    let sums = zipped_first of_mark cut.marks cut.privates (none_else is_sum_mark (has_sums version) cut.marks (sums_in (list_any some_privates cut.privates) (list_any is_sum_mark cut.marks))) in
    let privates = zipped_second of_scalars cut.marks cut.privates (none_else some_privates (has_privates version) cut.privates (privates_in_version (list_any some_privates cut.privates) (list_any is_sum_mark cut.marks))) in
    let all = zipped_second (list_all is_32) cut.marks cut.privates shown in
    let first = λ (l : Mark × List ℕ). of_mark l.0 && of_scalars l.1 in
    let second = λ (l : Mark × List ℕ). may_have l && list_all is_32 l.1 in
    weaken (λ (l : Mark × List ℕ). first l && second l) (is_loop_shown version)
    (λ l h.
    let parts = and_parts (first l) (second l) h in
    let one = and_parts (of_mark l.0) (of_scalars l.1) parts.0 in
    let two = and_parts (may_have l) (list_all is_32 l.1) parts.1 in
    and_from (has_loop version l) (list_all is_32 l.1) (loop_shown version l.0 l.1 one.0 one.1 two.0) two.1)
    (cut_loops cut)
    (both first second (cut_loops cut) (both (λ (l : Mark × List ℕ). of_mark l.0) (λ (l : Mark × List ℕ). of_scalars l.1) (cut_loops cut) sums privates) (both may_have (λ (l : Mark × List ℕ). list_all is_32 l.1) (cut_loops cut) may all))

few_workers : (n : ℕ) → n ≤ 64 → is_32 n ≡ true
few_workers n h = grind (arith, nat_tests)

-- ---- the whole

pub has_text : (tree : Tree) (plan : Plan) → IsWellFormed tree → plan.version ≡ least_version plan.cut → plan.conditions ≡ Values → IsFit tree plan → IsReasonedCut tree plan.cut → numbers.IsHeld plan → HasText plan
has_text tree plan formed version values fits reasoned shown =
    let text = static_phases tree plan.cut.marks in
    let constants = length tree.params in
    let parts = fit_parts tree plan fits in
    let counts = counts_of_fit tree plan formed values fits in
    let may : list_all may_have (cut_loops plan.cut) ≡ true = subst (λ (cut : Cutting). list_all may_have (cut_loops cut) ≡ true) (sym reasoned.cut_is) (may_of reasoned.dealt reasoned.own tree.items) in
    let loops : list_all (is_loop_shown plan.version) (cut_loops plan.cut) ≡ true = ap (λ v. list_all (is_loop_shown v) (cut_loops plan.cut)) version ∙ all_loops plan.cut may shown.privates in
    let kinds = kinds_shown constants text plan.kinds parts.kinds parts.good_kinds shown.kinds in
    let anchors = anchors_shown constants plan.cut.marks text plan.anchors parts.anchors parts.good_anchors shown.anchors in
    let phases = both (λ (p : Kind × Anchor). is_kind_shown p.0) (λ (p : Kind × Anchor). is_anchor_shown p.1) (zipped plan.kinds plan.anchors) (zipped_first is_kind_shown plan.kinds plan.anchors kinds) (zipped_second is_anchor_shown plan.kinds plan.anchors anchors) in
    record {
      workers = few_workers plan.workers parts.few;
      conditions = counts.conditions;
      lists = counts.lists;
      loops = and_from (is_32 (length (cut_loops plan.cut))) (list_all (is_loop_shown plan.version) (cut_loops plan.cut)) (ap is_32 (zipped-length plan.cut.marks plan.cut.privates counts.lists) ∙ counts.loops) loops;
      pairs = counts.pairs;
      phases = and_from (is_32 (length (zipped plan.kinds plan.anchors))) (list_all is_phase_shown (zipped plan.kinds plan.anchors)) (ap is_32 (zipped-length plan.kinds plan.anchors counts.pairs) ∙ counts.phases) phases;
      certificates = and_from (is_64 (length plan.certificates)) (list_all is_certificate_shown plan.certificates) shown.count shown.certificates;
    }
