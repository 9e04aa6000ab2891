-- Kinds that differ in front of one phase alone, and what the slots see of them.
use Rattle.std.proofs.Common.{◌≡◌, ℕ, zero, suc, ◌+◌, ◌-◌, ◌<◌, ◌≤◌, ◌==◌, Bool, true, false, ◌||◌, List, [], ◌∷◌, ◌++◌, length, map, Some, if◌then◌else◌, refl, ap, ap₂, sym, ◌∙◌, arith}
use Rattle.std.specs.Prelude.{◌≢◌, slice_get, slice_set, sum_by}
use Rattle.std.specs.List.{AllByRecursion, flat_map, list_all, list_any}
use Rattle.std.proofs.lemmas.Bool.{and_from, and_parts}
use Rattle.std.proofs.lemmas.Bool.Decides.{nat_tests}
use Rattle.std.proofs.lemmas.List.Concat.{flat_map-cons}
use Rattle.std.proofs.lemmas.List.Sums.{sum_by-cons}
use Rattle.owner_partition.specs.declared.anchor.Anchor.{Anchor}
use Rattle.nest_tree.specs.Tree.{Head}
use Rattle.sync_plan.specs.declared.plan.Kind.{Kind}
use Rattle.sync_plan.specs.declared.plan.Version.{Version}
use Rattle.comm_system.specs.Boundaries.{Boundary, Side, boundaries_where, of_first, of_second}
use Rattle.comm_system.specs.Certain.{certain_of, is_certain}
use Rattle.comm_system.specs.Obligations.{Slot}
use Rattle.comm_system.specs.References.{StaticPhase}
use Rattle.comm_system.specs.SideViews.{boundary_seen}
use Rattle.comm_system.specs.declared.boundary.Boundary.{Boundary as HeldBoundary}
use Rattle.comm_system.specs.Signatures.{Signature, blocked, counted, has_places_in, is_barrier, kind_at, last_three, left_waits, or_nothing, producers_at, right_waits, signature_of, waits}
use Rattle.plan_maker.specs.Candidates.{ArePlaces, kinds_taken, or_barrier}
use Rattle.plan_maker.specs.PhaseCauses.{touches}

-- ---- numbers of certain boundaries

abbrev IsNumbered : Boundary → Type 0
IsNumbered b = 1 ≤ b.phase

numbered_where : (test : ℕ → List Head → Bool) (side : Side) (u : ℕ) (phases : List StaticPhase) → 1 ≤ u → AllByRecursion IsNumbered (boundaries_where test side u phases)
numbered_where test side u [] from = tt
numbered_where test side u (p ∷ phases) from = by (test u p.outer) (numbered_where test side (suc u) phases (omega arith))
  where
    by : (b : Bool) → AllByRecursion IsNumbered (boundaries_where test side (suc u) phases) → AllByRecursion IsNumbered (if b then record { phase = u; side = side } ∷ boundaries_where test side (suc u) phases else boundaries_where test side (suc u) phases)
    by true rest = (from, rest)
    by false rest = rest

both : (bs cs : List Boundary) → AllByRecursion IsNumbered bs → AllByRecursion IsNumbered cs → AllByRecursion IsNumbered (bs ++ cs)
both [] cs h k = k
both (b ∷ bs) cs h k = (h.0, both bs cs h.1 k)

numbered : (slot : Slot) (phases : List StaticPhase) → AllByRecursion IsNumbered (certain_of slot phases)
numbered slot phases =
    both (boundaries_where (is_certain of_first slot) of_first 1 phases) (boundaries_where (is_certain of_second slot) of_second 1 phases) (numbered_where (is_certain of_first slot) of_first 1 phases (omega arith)) (numbered_where (is_certain of_second slot) of_second 1 phases (omega arith))

-- ---- boundaries as they are held

pub touched_seen : (u : ℕ) (bs : List HeldBoundary) → touches u (map boundary_seen bs) ≡ list_any (λ (b : HeldBoundary). b.phase == u) bs
touched_seen u [] = refl
touched_seen u (b ∷ bs) = ap (λ t. (b.phase == u) || t) (touched_seen u bs)

-- ---- signatures

abbrev shape : Version → Bool → ℕ → ℕ → List (Anchor × Side) → Signature
shape version b l r producers = if b then blocked else waits (counted version l) (counted version r) (last_three producers)

module _ (kinds others : List Kind) where
  abbrev IsSeenAlike : Boundary → Type 0
  IsSeenAlike b = kind_at kinds b ≡ kind_at others b

  alike_any : (p : Kind → Bool) (bs : List Boundary) → AllByRecursion IsSeenAlike bs → list_any (λ b. p (kind_at kinds b)) bs ≡ list_any (λ b. p (kind_at others b)) bs
  alike_any p [] h = refl
  alike_any p (b ∷ bs) h = ap₂ (λ k r. p k || r) h.0 (alike_any p bs h.1)

  alike_sum : (f : Kind → ℕ) (bs : List Boundary) → AllByRecursion IsSeenAlike bs → sum_by (λ b. f (kind_at kinds b)) bs ≡ sum_by (λ b. f (kind_at others b)) bs
  alike_sum f [] h = refl
  alike_sum f (b ∷ bs) h = sum_by-cons (λ b. f (kind_at kinds b)) b bs ∙ ap₂ (λ k r. f k + r) h.0 (alike_sum f bs h.1) ∙ sym (sum_by-cons (λ b. f (kind_at others b)) b bs)

  alike_producers : (bs : List Boundary) → AllByRecursion IsSeenAlike bs → flat_map (λ (b : Boundary). producers_at b.side (kind_at kinds b)) bs ≡ flat_map (λ (b : Boundary). producers_at b.side (kind_at others b)) bs
  alike_producers [] h = refl
  alike_producers (b ∷ bs) h =
      flat_map-cons (λ (b : Boundary). producers_at b.side (kind_at kinds b)) b bs ∙ ap₂ (λ k r. producers_at b.side k ++ r) h.0 (alike_producers bs h.1)
      ∙ sym (flat_map-cons (λ (b : Boundary). producers_at b.side (kind_at others b)) b bs)

  alike_signature : (version : Version) (bs : List Boundary) → AllByRecursion IsSeenAlike bs → signature_of version kinds bs ≡ signature_of version others bs
  alike_signature version bs h =
      let left = sum_by (λ b. left_waits (kind_at kinds b)) bs in
      let right = sum_by (λ b. right_waits (kind_at kinds b)) bs in
      let producers = flat_map (λ (b : Boundary). producers_at b.side (kind_at kinds b)) bs in
      let barrier' = list_any (λ b. is_barrier (kind_at others b)) bs in
      let left' = sum_by (λ b. left_waits (kind_at others b)) bs in
      let right' = sum_by (λ b. right_waits (kind_at others b)) bs in
      ap (λ b. shape version b left right producers) (alike_any is_barrier bs h) ∙ ap (λ l. shape version barrier' l right producers) (alike_sum left_waits bs h)
      ∙ ap (λ r. shape version barrier' left' r producers) (alike_sum right_waits bs h) ∙ ap (λ ps. shape version barrier' left' right' ps) (alike_producers bs h)

  alike_where : (u : ℕ) (bs : List Boundary) → ((k : ℕ) → suc k ≢ u → slice_get kinds k ≡ slice_get others k) → AllByRecursion IsNumbered bs → touches u bs ≡ false → AllByRecursion IsSeenAlike bs
  alike_where u [] same n h = tt
  alike_where u (b ∷ bs) same n h = by (b.phase == u) refl (alike_where u bs same n.1) h
    where
      by : (t : Bool) → (b.phase == u) ≡ t → (touches u bs ≡ false → AllByRecursion IsSeenAlike bs) → (t || touches u bs) ≡ false → AllByRecursion IsSeenAlike (b ∷ bs)
      by true is rest e = absurd (let no : true ≡ false = e in cc)
      by false is rest e =
          let other : suc (b.phase - 1) ≢ u = λ here. let there : b.phase ≡ u = omega (arith, here, n.0) in let no : (b.phase == u) ≡ true = grind (arith, nat_tests) in absurd (let clash : true ≡ false = sym no ∙ is in cc) in
          (ap or_nothing (same (b.phase - 1) other), rest e)

-- a slot that doesn't have the boundary in front of a phase among its certain ones sees nothing of a change there
pub untouched : (version : Version) (kinds others : List Kind) (u : ℕ) (slot : Slot) (phases : List StaticPhase) → ((k : ℕ) → suc k ≢ u → slice_get kinds k ≡ slice_get others k) → touches u (certain_of slot phases) ≡ false →
    signature_of version kinds (certain_of slot phases) ≡ signature_of version others (certain_of slot phases)
untouched version kinds others u slot phases same h = alike_signature kinds others version (certain_of slot phases) (alike_where kinds others u (certain_of slot phases) same (numbered slot phases) h)

-- ---- kinds that are taken

-- another choice in front of a phase is no change elsewhere
pub taken_elsewhere : (candidates : List (List Kind)) (taken : List ℕ) (t i k : ℕ) → k ≢ t → slice_get (kinds_taken candidates (slice_set taken t i)) k ≡ slice_get (kinds_taken candidates taken) k
taken_elsewhere [] taken t i k other = refl
taken_elsewhere (ks ∷ candidates) [] t i k other = refl
taken_elsewhere (ks ∷ candidates) (j ∷ taken) zero i zero other = absurd (other refl)
taken_elsewhere (ks ∷ candidates) (j ∷ taken) zero i (suc k) other = refl
taken_elsewhere (ks ∷ candidates) (j ∷ taken) (suc t) i zero other = refl
taken_elsewhere (ks ∷ candidates) (j ∷ taken) (suc t) i (suc k) other = taken_elsewhere candidates taken t i k (λ e. other (ap suc e))

-- an earlier candidate is one
pub place_earlier : (candidates : List (List Kind)) (taken : List ℕ) (t i j : ℕ) → slice_get taken t ≡ Some j → i < j → ArePlaces candidates taken → ArePlaces candidates (slice_set taken t i)
place_earlier [] [] t i j at lt h = tt
place_earlier [] (p ∷ taken) t i j at lt h = absurd h
place_earlier (ks ∷ candidates) [] t i j at lt h = absurd h
place_earlier (ks ∷ candidates) (p ∷ taken) zero i j at lt h = let same : p ≡ j = cc in (omega (arith, lt, h.0), h.1)
place_earlier (ks ∷ candidates) (p ∷ taken) (suc t) i j at lt h = (h.0, place_earlier candidates taken t i j at lt h.1)

pub places_long : (candidates : List (List Kind)) (taken : List ℕ) → ArePlaces candidates taken → length taken ≡ length candidates
places_long [] [] h = refl
places_long [] (p ∷ taken) h = absurd h
places_long (ks ∷ candidates) [] h = absurd h
places_long (ks ∷ candidates) (p ∷ taken) h = ap suc (places_long candidates taken h.1)

one-has : (ks : List Kind) (i : ℕ) → list_all has_places_in ks ≡ true → has_places_in (or_barrier (slice_get ks i)) ≡ true
one-has [] i h = refl
one-has (k ∷ ks) zero h = (and_parts (has_places_in k) (list_all has_places_in ks) h).0
one-has (k ∷ ks) (suc i) h = one-has ks i (and_parts (has_places_in k) (list_all has_places_in ks) h).1

-- the blocks of a producer have places where those of the candidates have
pub taken_have : (candidates : List (List Kind)) (taken : List ℕ) → list_all (λ ks. list_all has_places_in ks) candidates ≡ true → list_all has_places_in (kinds_taken candidates taken) ≡ true
taken_have [] taken h = refl
taken_have (ks ∷ candidates) [] h = refl
taken_have (ks ∷ candidates) (i ∷ taken) h =
    let parts = and_parts (list_all has_places_in ks) (list_all (λ ks. list_all has_places_in ks) candidates) h in
    and_from (has_places_in (or_barrier (slice_get ks i))) (list_all has_places_in (kinds_taken candidates taken)) (one-has ks i parts.0) (taken_have candidates taken parts.1)
