-- A plan that fits does so with any of the candidates in front of its phases, and any certificates.
use Rattle.std.proofs.Common.{◌≡◌, ℕ, zero, suc, ◌+◌, ◌-◌, Bool, true, false, ◌&&◌, ◌||◌, ◌==◌, List, [], ◌∷◌, ◌++◌, length, map, Option, Some, None, refl, ap, sym, ◌∙◌, subst, arith}
use Rattle.std.specs.Prelude.{slice_get}
use Rattle.std.specs.List.{AllByRecursion, cons_option, list_all, list_any}
use Rattle.std.specs.Option.{option_map, option_or}
use Rattle.std.proofs.lemmas.Bool.{and_from, and_parts}
use Rattle.std.proofs.lemmas.List.{length-map}
use Rattle.farkas_cert.specs.declared.certificate.Certificate.{Certificate}
use Rattle.nest_tree.specs.declared.tree.Access.{Access}
use Rattle.nest_tree.specs.Form.{is_form}
use Rattle.nest_tree.specs.Limits.{no_ends}
use Rattle.nest_tree.specs.Tree.{Head, Tree, param_values}
use Rattle.nest_tree.specs.WellFormed.{IsWellFormed, is_number_of, names_only, scope_of}
use Rattle.nest_tree.proofs.Cells.{well_formed_parts}
use Rattle.nest_tree.proofs.FirstLimits.{neither}
use Rattle.nest_rows.proofs.Dots.{numbers}
use Rattle.nest_rows.proofs.GoodNesting.{form-among}
use Rattle.nest_rows.proofs.Nesting.{all-append, all-at}
use Rattle.owner_partition.specs.declared.anchor.Anchor.{Anchor}
use Rattle.owner_partition.specs.declared.cut.Mark.{Mark}
use Rattle.owner_partition.specs.Marks.{enters_outer}
use Rattle.owner_partition.specs.Owners.{has_places}
use Rattle.owner_partition.specs.Placement.{misplaced, misplaced_at, phase_ends, unplaced}
use Rattle.sync_plan.specs.declared.plan.Conditions.TheVariants.{Values}
use Rattle.sync_plan.specs.declared.plan.Kind.{Kind}
use Rattle.sync_plan.specs.declared.plan.Kind.TheVariants.{Nothing, Producer, Left, Right, Both, Barrier}
use Rattle.sync_plan.specs.declared.plan.Plan.{Plan}
use Rattle.sync_plan.specs.Fit.{IsFit, kind_anchors, numbered_anchors}
use Rattle.sync_plan.specs.Kinds.{anchor_in}
use Rattle.sync_plan.specs.Shape.{are_good_kinds, is_good_anchor, is_good_kind, own_loops, static_phases}
use Rattle.sync_plan.proofs.FitOwners.{good_each}
use Rattle.sync_plan.proofs.Fits.{FitParts, fit_parts}
use Rattle.comm_system.specs.Boundaries.{is_prefix}
use Rattle.comm_system.specs.References.{StaticPhase}
use Rattle.comm_laws.proofs.Holders.{anchor_placed}
use Rattle.comm_system.proofs.KnownHeads.{AreKnown, heads_among, known_among}
use Rattle.comm_system.proofs.Lists.{all_mapped, mapped_get}
use Rattle.comm_system.proofs.Stations.{phases-text, text_among}
use Rattle.comm_system.proofs.Timeline.{IsFrontOf, prefix_front_of}
use Rattle.maker_anchors.specs.Anchors.{element_owner}
use Rattle.maker_anchors.proofs.Kept.{owner_kept}
use Rattle.maker_candidates.specs.Candidates.{can_produce, candidates_at, candidates_from, candidates_in, names_only_these, producers_at, round}
use Rattle.maker_candidates.proofs.Lists.{candidates_long}
use Rattle.maker_candidates.proofs.Owned.{producers_all}
use Rattle.maker_candidates.proofs.Stops.{inward, round_is, stop, stops-are}
use Rattle.plan_maker.specs.Candidates.{ArePlaces, kinds_taken, or_barrier}
use Rattle.plan_maker.specs.Made.{with_found}
use Rattle.plan_maker.proofs.AnchorsKept.{Rises, ends-are, ends_by, front-keeps, text-rises}
use Rattle.plan_maker.proofs.FitParts.{fits_by_parts, marked_well}
use Rattle.plan_maker.proofs.TakenKinds.{places_long}

-- ---- what is named inward is named from the outermost on

abbrev names : ℕ → List ℕ → Bool
names n around = list_any (λ l. l == n) around

turned-or : (a b c : Bool) → (a || (b || c)) ≡ ((b || a) || c)
turned-or true true c = refl
turned-or true false c = refl
turned-or false true c = refl
turned-or false false c = refl

inward-names : (n : ℕ) (hs : List Head) (around : List ℕ) → names n (inward hs around) ≡ (names n (numbers hs) || names n around)
inward-names n [] around = refl
inward-names n (h ∷ hs) around = inward-names n hs (h.number ∷ around) ∙ turned-or (names n (numbers hs)) (h.number == n) (names n around)

or-nothing : (b : Bool) → (b || false) ≡ b
or-nothing true = refl
or-nothing false = refl

inward-is : (n : ℕ) (hs : List Head) → names n (inward hs []) ≡ names n (numbers hs)
inward-is n hs = inward-names n hs [] ∙ or-nothing (names n (numbers hs))

front-names : (n : ℕ) (hs gs : List Head) → IsFrontOf hs gs → names n (numbers hs) ≡ true → names n (numbers gs) ≡ true
front-names n [] gs front h = absurd (let no : false ≡ true = h in cc)
front-names n (g ∷ hs) [] front h = absurd front
front-names n (h ∷ hs) (g ∷ gs) front named =
    subst (λ (x : Head). (x.number == n || names n (numbers gs)) ≡ true) front.0
    (elim (h.number == n) as (λ b. (b || names n (numbers hs)) ≡ true → (b || names n (numbers gs)) ≡ true) [ true ↦ λ e. refl | false ↦ λ e. front-names n hs gs front.1 e ] named)

-- an anchor that names only these loops is good where these are
outer-alone : (constants : ℕ) (loops around : List ℕ) (a : Anchor) → names_only constants loops a.form ≡ true → names_only_these around a ≡ true → names_only constants around a.form ≡ true
outer-alone constants loops around a good alone =
    let params = list_all (λ p. is_number_of constants p.0) a.form.params in
    let named : Bool = list_all (λ p. list_any (λ l. l == p.0) loops) a.form.loops in
    let parts = and_parts (is_form a.form && named) params good in
    and_from (is_form a.form && names_only_these around a) params (and_from (is_form a.form) (names_only_these around a) (and_parts (is_form a.form) named parts.0).0 alone) parts.1

-- ---- kinds in front of a phase

module _ (tree : Tree) (marks : List Mark) (workers : ℕ) where
  record IsFineProducer (v : ℕ) (around : List ℕ) (a : Anchor) : Type 0 where
    good : is_good_anchor (length tree.params) around a ≡ true
    placed : misplaced tree marks workers v a ≡ None

  record IsFineKind (v : ℕ) (around : List ℕ) (kind : Kind) : Type 0 where
    good : is_good_kind (length tree.params) around kind ≡ true
    placed : (a : Anchor) → anchor_in kind ≡ Some a → misplaced tree marks workers v a ≡ None

  without : (v : ℕ) (around : List ℕ) (kind : Kind) → is_good_kind (length tree.params) around kind ≡ true → anchor_in kind ≡ None → IsFineKind v around kind
  without v around kind good none = record { good = good; placed = λ a at. absurd (let no : None ≡ Some a = sym none ∙ at in cc) }

  barrier-fine : (v : ℕ) (around : List ℕ) → IsFineKind v around Barrier
  barrier-fine v around = without v around Barrier refl refl

  -- each of the candidates
  producers-fine : (v : ℕ) (around : List ℕ) (producers : List Anchor) → AllByRecursion (IsFineProducer v around) producers → AllByRecursion (IsFineKind v around) (Nothing ∷ (map Producer producers ++ Left ∷ Right ∷ Both ∷ Barrier ∷ []))
  producers-fine v around producers all =
      let fine = IsFineKind v around in (
        without v around Nothing refl refl,
        all-append fine (map Producer producers) (Left ∷ Right ∷ Both ∷ Barrier ∷ [])
            (all_mapped (IsFineProducer v around) fine Producer producers (λ a h. record { good = h.good; placed = λ b at. let same : a ≡ b = cc in subst (λ x. misplaced tree marks workers v x ≡ None) same h.placed }) all)
            (without v around Left refl refl, (without v around Right refl refl, (without v around Both refl refl, (barrier-fine v around, tt)))),
      )

  one-fine : (v : ℕ) (around : List ℕ) (ks : List Kind) (i : ℕ) → AllByRecursion (IsFineKind v around) ks → IsFineKind v around (or_barrier (slice_get ks i))
  one-fine v around [] i all = barrier-fine v around
  one-fine v around (k ∷ ks) zero all = all.0
  one-fine v around (k ∷ ks) (suc i) all = one-fine v around ks i all.1

  -- those that are taken
  module _ (anchors : List Anchor) (phases : List StaticPhase) where
    abbrev candidates : ℕ → StaticPhase → List Kind
    candidates u t = candidates_at tree marks workers anchors phases u t

    abbrev all-from : ℕ → List StaticPhase → List (List Kind)
    all-from v ts = candidates_from tree marks workers anchors phases v ts

    abbrev AreAllFine : ℕ → List StaticPhase → Type 0
    AreAllFine v ts = (i : ℕ) (t : StaticPhase) → slice_get ts i ≡ Some t → AllByRecursion (IsFineKind (v + i) (inward t.outer [])) (candidates (v + i) t)

    fine-here : (v : ℕ) (t : StaticPhase) (ts : List StaticPhase) → AreAllFine v (t ∷ ts) → AllByRecursion (IsFineKind v (inward t.outer [])) (candidates v t)
    fine-here v t ts all = let e : v + 0 ≡ v = omega arith in subst (λ n. AllByRecursion (IsFineKind n (inward t.outer [])) (candidates n t)) e (all 0 t refl)

    fine-later : (v : ℕ) (t : StaticPhase) (ts : List StaticPhase) → AreAllFine v (t ∷ ts) → AreAllFine (suc v) ts
    fine-later v t ts all = λ i s at. let e : v + suc i ≡ suc v + i = omega arith in subst (λ n. AllByRecursion (IsFineKind n (inward s.outer [])) (candidates n s)) e (all (suc i) s at)

    taken-good : (v : ℕ) (ts : List StaticPhase) (taken : List ℕ) → AreAllFine v ts → are_good_kinds (length tree.params) (map (stop []) ts) (kinds_taken (all-from v ts) taken) ≡ true
    taken-good v [] taken all = refl
    taken-good v (t ∷ ts) [] all = refl
    taken-good v (t ∷ ts) (i ∷ taken) all =
        let kind = or_barrier (slice_get (candidates v t) i) in
        let here = one-fine v (inward t.outer []) (candidates v t) i (fine-here v t ts all) in
        and_from (is_good_kind (length tree.params) (inward t.outer []) kind) (are_good_kinds (length tree.params) (map (stop []) ts) (kinds_taken (all-from (suc v) ts) taken)) here.good (taken-good (suc v) ts taken (fine-later v t ts all))

    taken-placed : (v : ℕ) (ts : List StaticPhase) (taken : List ℕ) → AreAllFine v ts → unplaced tree marks workers (kind_anchors v (kinds_taken (all-from v ts) taken)) ≡ None
    taken-placed v [] taken all = refl
    taken-placed v (t ∷ ts) [] all = refl
    taken-placed v (t ∷ ts) (i ∷ taken) all =
        by (anchor_in (or_barrier (slice_get (candidates v t) i))) (one-fine v (inward t.outer []) (candidates v t) i (fine-here v t ts all)).placed (taken-placed (suc v) ts taken (fine-later v t ts all))
      where
        by : (o : Option Anchor) → ((a : Anchor) → o ≡ Some a → misplaced tree marks workers v a ≡ None) → unplaced tree marks workers (kind_anchors (suc v) (kinds_taken (all-from (suc v) ts) taken)) ≡ None →
            unplaced tree marks workers (cons_option (option_map (λ (a : Anchor). (v, a)) o) (kind_anchors (suc v) (kinds_taken (all-from (suc v) ts) taken))) ≡ None
        by None here later = later
        by (Some a) here later = ap (λ o. option_or o (unplaced tree marks workers (kind_anchors (suc v) (kinds_taken (all-from (suc v) ts) taken)))) (here a refl) ∙ later

  placed-front : (xs ys : List (ℕ × Anchor)) → unplaced tree marks workers (xs ++ ys) ≡ None → unplaced tree marks workers xs ≡ None
  placed-front [] ys none = refl
  placed-front (x ∷ xs) ys none =
      let parts = neither (misplaced tree marks workers x.0 x.1) (unplaced tree marks workers (xs ++ ys)) none in
      ap (λ o. option_or o (unplaced tree marks workers xs)) parts.0 ∙ placed-front xs ys parts.1

  placed-both : (xs ys : List (ℕ × Anchor)) → unplaced tree marks workers xs ≡ None → unplaced tree marks workers ys ≡ None → unplaced tree marks workers (xs ++ ys) ≡ None
  placed-both [] ys none more = more
  placed-both (x ∷ xs) ys none more =
      let parts = neither (misplaced tree marks workers x.0 x.1) (unplaced tree marks workers xs) none in
      ap (λ o. option_or o (unplaced tree marks workers (xs ++ ys))) parts.0 ∙ placed-both xs ys parts.1 more

taken-long : (candidates : List (List Kind)) (taken : List ℕ) → length taken ≡ length candidates → length (kinds_taken candidates taken) ≡ length candidates
taken-long [] taken long = refl
taken-long (ks ∷ candidates) [] long = absurd (omega (arith, long))
taken-long (ks ∷ candidates) (i ∷ taken) long = ap suc (taken-long candidates taken (omega (arith, long)))

-- ---- of a plan that fits

module _ (tree : Tree) (plan : Plan) (formed : IsWellFormed tree) (fits : IsFit tree plan) where
  abbrev enters : ℕ → Bool
  enters = enters_outer plan.cut.marks

  abbrev text : List StaticPhase
  text = text_among enters tree.items

  parts : FitParts tree plan
  parts = fit_parts tree plan fits

  stops : static_phases tree plan.cut.marks ≡ map (stop []) text
  stops = stops-are enters [] tree.items

  placed-at : (k : ℕ) (s : StaticPhase) (a : Anchor) → slice_get text k ≡ Some s → misplaced tree plan.cut.marks plan.workers (1 + k) a ≡ misplaced_at (param_values tree) plan.workers (1 + k) a (ends_by (param_values tree) no_ends (Some s))
  placed-at k s a at =
      let back : 1 + k - 1 ≡ k = omega arith in
      ap (misplaced_at (param_values tree) plan.workers (1 + k) a) (ap (phase_ends tree plan.cut.marks) back ∙ ends-are (param_values tree) enters no_ends tree.items k ∙ ap (ends_by (param_values tree) no_ends) at)

  producer-fine : (j k : ℕ) (s t : StaticPhase) (a : Anchor) → slice_get text j ≡ Some s → slice_get text k ≡ Some t → slice_get plan.anchors j ≡ Some a → can_produce s a t ≡ true → IsFineProducer tree plan.cut.marks plan.workers (1 + k) (inward t.outer []) a
  producer-fine j k s t a at at' anchor can =
      let constants = length tree.params in
      let good = (well_formed_parts tree formed).statements in
      let known = known_among (scope_of tree) enters [] 1 tree.items good in
      let rising = text-rises (scope_of tree) enters [] 1 tree.items good in
      let produce = and_parts (is_prefix s.outer t.outer) (names_only_these (round s) a) can in
      let front = prefix_front_of (heads_among tree.items) 1 s.outer t.outer (all-at (AreKnown (heads_among tree.items) 1) text j s known at) (all-at (AreKnown (heads_among tree.items) 1) text k t known at') produce.0 in
      let own = good_each constants plan.cut.marks (static_phases tree plan.cut.marks) plan.anchors j (stop [] s) a parts.good_anchors (ap (λ ps. slice_get ps j) stops ∙ mapped_get (stop []) text j s at) anchor in
      let both = and_parts (names_only constants (own_loops plan.cut.marks s.what (inward s.outer [])) a.form) (has_places a.dist) own in
      let round' = outer-alone constants (own_loops plan.cut.marks s.what (inward s.outer [])) (inward s.outer []) a both.0 (ap (λ ls. names_only_these ls a) (round_is s) ∙ produce.1) in
      let named = form-among constants (inward s.outer []) (numbers s.outer) a.form (λ n h. sym (inward-is n s.outer) ∙ h) round' in
      let moved = form-among constants (numbers s.outer) (inward t.outer []) a.form (λ n h. inward-is n t.outer ∙ front-names n s.outer t.outer front h) named in
      let there = sym (placed-at j s a at) ∙ anchor_placed tree plan.cut.marks plan.workers plan.anchors plan.kinds j a parts.placed anchor in
      record {
        good = and_from (names_only constants (inward t.outer []) a.form) (has_places a.dist) moved both.1;
        placed = placed-at k t a at' ∙ front-keeps (param_values tree) constants plan.workers (1 + j) (1 + k) a no_ends 1 [] s.outer t.outer s.what t.what named tt (omega arith) front (all-at (Rises 1) text j s rising at) (all-at (Rises 1) text k t rising at') there;
      }

  owner-fine : (k : ℕ) (t : StaticPhase) (x : Access) (a : Anchor) → element_owner tree plan.cut.marks plan.workers (1 + k) (round t) x ≡ Some a → IsFineProducer tree plan.cut.marks plan.workers (1 + k) (inward t.outer []) a
  owner-fine k t x a e =
      let kept = owner_kept tree plan.cut.marks plan.workers (1 + k) (round t) x a e in
      record { good = ap (λ ls. is_good_anchor (length tree.params) ls a) (round_is t) ∙ kept.good; placed = kept.placed }

  pub candidates_fit : (taken : List ℕ) (certificates : List Certificate) → plan.conditions ≡ Values → ArePlaces (candidates_in tree plan) taken → IsFit tree (with_found plan (kinds_taken (candidates_in tree plan) taken) certificates)
  candidates_fit taken certificates values places =
      let same = phases-text enters tree.items in
      let marks = plan.cut.marks in
      let made = candidates_from tree marks plan.workers plan.anchors text 1 text in
      let all : AreAllFine tree marks plan.workers plan.anchors text 1 text =
      λ k t at. producers-fine tree marks plan.workers (1 + k) (inward t.outer []) (producers_at tree marks plan.workers plan.anchors text (1 + k) t)
      (producers_all tree marks plan.workers (1 + k) t (IsFineProducer tree marks plan.workers (1 + k) (inward t.outer [])) plan.anchors text (λ j s a at' anchor can. producer-fine j k s t a at' at anchor can) (owner-fine k t)) in
      let whole : candidates_in tree plan ≡ made = ap (λ ps. candidates_from tree marks plan.workers plan.anchors ps 1 ps) same in
      let there = subst (λ cs. ArePlaces cs taken) whole places in
      let kinds = kinds_taken made taken in
      let long = taken-long made taken (places_long made taken there) ∙ candidates_long tree marks plan.workers plan.anchors text 1 text in
      let fit : IsFit tree (with_found plan kinds certificates) = fits_by_parts tree (with_found plan kinds certificates) (record {
        some = parts.some;
        few = parts.few;
        marks = parts.marks;
        anchors = parts.anchors;
        kinds = long ∙ sym (length-map text (stop [])) ∙ ap length (sym stops);
        good_kinds = ap (λ ps. are_good_kinds (length tree.params) ps kinds) stops ∙ taken-good tree marks plan.workers plan.anchors text 1 text taken all;
        good_anchors = parts.good_anchors;
        placed = placed-both tree marks plan.workers (numbered_anchors 1 plan.anchors) (kind_anchors 1 kinds) (placed-front tree marks plan.workers (numbered_anchors 1 plan.anchors) (kind_anchors 1 plan.kinds) parts.placed) (taken-placed tree marks plan.workers plan.anchors text 1 text taken all);
        good_sums = parts.good_sums;
        privates = parts.privates;
        good_privates = parts.good_privates;
        prints = parts.prints;
      }) (marked_well tree plan fits) values in
      subst (λ cs. IsFit tree (with_found plan (kinds_taken cs taken) certificates)) (sym whole) fit
