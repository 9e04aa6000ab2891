-- Chains of waits along boundaries whose phases rise.
use Rattle.std.proofs.Common.{◌≡◌, ◌==◌, ◌||◌, ◌&&◌, not, ℕ, zero, suc, ◌+◌, ◌-◌, ◌<◌, ◌≤◌, true, true≢false, List, [], ◌∷◌, Option, Some, None, refl, ap, sym, subst, ◌∙◌, inl, inr, arith}
use Rattle.std.specs.Prelude.{slice_get, sum_by}
use Rattle.std.specs.List.{AllByRecursion, Contains, list_any, range_with_len}
use Rattle.std.proofs.Math.Bool.{or-true}
use Rattle.std.proofs.lemmas.Bool.{cases_Bool, cases_eq}
use Rattle.std.proofs.lemmas.List.Sums.{sum_by-cons}
use Rattle.list_lemmas.proofs.Elements.{Contains-filter}
use Rattle.list_lemmas.proofs.Ranges.{range_there}
use Rattle.nest_tree.specs.Tree.{Tree, param_values}
use Rattle.nest_model.specs.Visits.{Visit}
use Rattle.owner_partition.specs.declared.anchor.Anchor.{Anchor}
use Rattle.owner_partition.specs.Owners.{anchor_owner}
use Rattle.owner_partition.specs.Phases.{phases}
use Rattle.sync_plan.specs.declared.plan.Kind.{Kind}
use Rattle.sync_plan.specs.declared.plan.Kind.TheVariants.{Nothing, Producer, Left, Right, Both, Barrier, Join}
use Rattle.sync_plan.specs.declared.plan.Plan.{Plan}
use Rattle.sync_plan.specs.Ordered.{Hop, IsChain, awaited_in, awaited_in_front}
use Rattle.sync_plan.specs.Waits.{awaited_behind, does_wait_at, kind_owner, waits_at}
use Rattle.conflict_rules.specs.Boundaries.{Boundary}
use Rattle.comm_system.specs.Signatures.{is_barrier, kind_at, left_waits, right_waits}
use Rattle.comm_system.proofs.StationOrder.{differ_test, equal_test}

-- the kind in front of a phase; Nothing where there is none
abbrev pub kind_of : Option Kind → Kind
kind_of None = Nothing
kind_of (Some k) = k

-- the phase in front of which a boundary stands
pub record HopAt (tree : Tree) (plan : Plan) (b : Boundary) : Type 0 where
  pub phase : ℕ
  pub visit : Visit
  pub at : slice_get (phases tree plan.cut.marks) (phase - 1) ≡ Some visit
  pub place_is : visit.place ≡ b.phase

-- boundaries whose phases rise from behind one phase up to another
abbrev pub AreHops : Tree → Plan → ℕ → ℕ → List Boundary → Type 0
AreHops tree plan low last [] = low ≤ last
AreHops tree plan low last (b ∷ bs) = (h : HopAt tree plan b) × (low < h.phase) × AreHops tree plan h.phase last bs

pub chain_lower : (tree : Tree) (plan : Plan) (q e d : ℕ) (hops : List Hop) (p t : ℕ) → d ≤ e → IsChain tree plan q e hops p t → IsChain tree plan q d hops p t
chain_lower tree plan q e d [] p t le c = (c.0, omega (arith, le, c.1))
chain_lower tree plan q e d (h ∷ hops) p t le c = (omega (arith, le, c.0), c.1, c.2)

module _ (tree : Tree) (plan : Plan) where
  hops_end : (low last : ℕ) (bs : List Boundary) → AreHops tree plan low last bs → low ≤ last
  hops_end low last [] h = h
  hops_end low last (b ∷ bs) h = let later = hops_end h.0.phase last bs h.2 in omega (arith, h.1, later)

  -- a processor waits for another at a kind
  pub hop_waits : (b : Boundary) (h : HopAt tree plan b) (kind : Kind) (p q : ℕ) → slice_get plan.kinds (b.phase - 1) ≡ Some kind → q < plan.workers → (p ≡ q → ⊥) → waits_at kind (kind_owner kind plan.workers h.visit.loops (param_values tree)) p q ≡ true →
      Contains (awaited_in_front tree plan p h.phase) q
  hop_waits b h kind p q is less ne waits =
      let owner = kind_owner kind plan.workers h.visit.loops (param_values tree) in
      let wait : does_wait_at kind owner p q ≡ true = ap (λ t. not t && waits_at kind owner p q) (differ_test p q ne) ∙ waits in
      let there = Contains-filter (does_wait_at kind owner p) (range_with_len 0 plan.workers) q (range_there 0 plan.workers q (omega arith) (omega (arith, less))) wait in
      let kind_is : slice_get plan.kinds (h.visit.place - 1) ≡ Some kind = ap (λ n. slice_get plan.kinds (n - 1)) h.place_is ∙ is in
      subst (λ o. Contains (awaited_in tree plan p o) q) (sym h.at) (subst (λ o. Contains (awaited_behind o plan.workers h.visit.loops (param_values tree) p) q) (sym kind_is) there)

  left_hop : (b : Boundary) (h : HopAt tree plan b) (q : ℕ) → (left_waits (kind_at plan.kinds b) ≡ 0 → ⊥) → q < plan.workers → Contains (awaited_in_front tree plan (q + 1) h.phase) q
  left_hop b h q some less = by (slice_get plan.kinds (b.phase - 1)) refl some
    where
      kinds : (k : Kind) → slice_get plan.kinds (b.phase - 1) ≡ Some k → (left_waits k ≡ 0 → ⊥) → Contains (awaited_in_front tree plan (q + 1) h.phase) q
      kinds Nothing e s = absurd (s refl)
      kinds (Producer a) e s = absurd (s refl)
      kinds Left e s = hop_waits b h Left (q + 1) q e less (λ e. omega (arith, e)) (equal_test (q + 1) (q + 1) refl)
      kinds Right e s = absurd (s refl)
      kinds Both e s = hop_waits b h Both (q + 1) q e less (λ e. omega (arith, e)) (ap (λ t. t || q + 1 + 1 == q) (equal_test (q + 1) (q + 1) refl))
      kinds Barrier e s = absurd (s refl)
      kinds Join e s = absurd (s refl)

      by : (o : Option Kind) → slice_get plan.kinds (b.phase - 1) ≡ o → (left_waits (kind_of o) ≡ 0 → ⊥) → Contains (awaited_in_front tree plan (q + 1) h.phase) q
      by None e s = absurd (s refl)
      by (Some k) e s = kinds k e s

  right_hop : (b : Boundary) (h : HopAt tree plan b) (p : ℕ) → (right_waits (kind_at plan.kinds b) ≡ 0 → ⊥) → p + 1 < plan.workers → Contains (awaited_in_front tree plan p h.phase) (p + 1)
  right_hop b h p some less = by (slice_get plan.kinds (b.phase - 1)) refl some
    where
      kinds : (k : Kind) → slice_get plan.kinds (b.phase - 1) ≡ Some k → (right_waits k ≡ 0 → ⊥) → Contains (awaited_in_front tree plan p h.phase) (p + 1)
      kinds Nothing e s = absurd (s refl)
      kinds (Producer a) e s = absurd (s refl)
      kinds Left e s = absurd (s refl)
      kinds Right e s = hop_waits b h Right p (p + 1) e less (λ e. omega (arith, e)) (equal_test (p + 1) (p + 1) refl)
      kinds Both e s = hop_waits b h Both p (p + 1) e less (λ e. omega (arith, e)) (ap (λ t. p + 1 + 1 == p || t) (equal_test (p + 1) (p + 1) refl) ∙ or-true (p + 1 + 1 == p))
      kinds Barrier e s = absurd (s refl)
      kinds Join e s = absurd (s refl)

      by : (o : Option Kind) → slice_get plan.kinds (b.phase - 1) ≡ o → (right_waits (kind_of o) ≡ 0 → ⊥) → Contains (awaited_in_front tree plan p h.phase) (p + 1)
      by None e s = absurd (s refl)
      by (Some k) e s = kinds k e s

  one_at_most : (k : Kind) → (left_waits k ≤ 1) × (right_waits k ≤ 1)
  one_at_most Nothing = (omega arith, omega arith)
  one_at_most (Producer a) = (omega arith, omega arith)
  one_at_most Left = (omega arith, omega arith)
  one_at_most Right = (omega arith, omega arith)
  one_at_most Both = (omega arith, omega arith)
  one_at_most Barrier = (omega arith, omega arith)
  one_at_most Join = (omega arith, omega arith)

  -- to the right, by waits for the processor to the left
  pub left_chain : (low last : ℕ) (bs : List Boundary) (q d : ℕ) → AreHops tree plan low last bs → d ≤ sum_by (λ u. left_waits (kind_at plan.kinds u)) bs → q + d < plan.workers → (hops : List Hop) × IsChain tree plan q low hops (q + d) last
  left_chain low last [] q d h few less = ([], (omega (arith, few), h))
  left_chain low last (b ∷ bs) q zero h few less = ([], (omega arith, hops_end low last (b ∷ bs) h))
  left_chain low last (b ∷ bs) q (suc d) h few less =
      let total = sum_by-cons (λ u. left_waits (kind_at plan.kinds u)) b bs in
      let one = (one_at_most (kind_at plan.kinds b)).0 in
      elim (cases_eq (left_waits (kind_at plan.kinds b)) 0) [
        | inl none ↦
            let later = left_chain h.0.phase last bs q (suc d) h.2 (omega (arith, few, total, none)) less in
            (later.0, chain_lower tree plan q h.0.phase low later.0 (q + suc d) last (omega (arith, h.1)) later.1)
        | inr some ↦
            let later = left_chain h.0.phase last bs (q + 1) d h.2 (omega (arith, few, total, one)) (omega (arith, less)) in
            let to : q + 1 + d ≡ q + suc d = omega arith in
            (record { phase = h.0.phase; processor = q + 1 } ∷ later.0, (h.1, left_hop b h.0 q some (omega (arith, less)), subst (λ p. IsChain tree plan (q + 1) h.0.phase later.0 p last) to later.1))
      ]

  -- to the left, by waits for the processor to the right
  pub right_chain : (low last : ℕ) (bs : List Boundary) (p d : ℕ) → AreHops tree plan low last bs → d ≤ sum_by (λ u. right_waits (kind_at plan.kinds u)) bs → p + d < plan.workers → (hops : List Hop) × IsChain tree plan (p + d) low hops p last
  right_chain low last [] p d h few less = ([], (omega (arith, few), h))
  right_chain low last (b ∷ bs) p zero h few less = ([], (omega arith, hops_end low last (b ∷ bs) h))
  right_chain low last (b ∷ bs) p (suc d) h few less =
      let total = sum_by-cons (λ u. right_waits (kind_at plan.kinds u)) b bs in
      let one = (one_at_most (kind_at plan.kinds b)).1 in
      elim (cases_eq (right_waits (kind_at plan.kinds b)) 0) [
        | inl none ↦
            let later = right_chain h.0.phase last bs p (suc d) h.2 (omega (arith, few, total, none)) less in
            (later.0, chain_lower tree plan (p + suc d) h.0.phase low later.0 p last (omega (arith, h.1)) later.1)
        | inr some ↦
            let later = right_chain h.0.phase last bs p d h.2 (omega (arith, few, total, one)) (omega (arith, less)) in
            let from : p + d + 1 ≡ p + suc d = omega arith in
            (record { phase = h.0.phase; processor = p + d } ∷ later.0, (h.1, subst (λ q. Contains (awaited_in_front tree plan (p + d) h.0.phase) q) from (right_hop b h.0 (p + d) some (omega (arith, less))), later.1))
      ]

  -- a boundary between two phases
  pub record IsBetween (low last : ℕ) (b : Boundary) : Type 0 where
    pub hop : HopAt tree plan b
    pub above : low < hop.phase
    pub until : hop.phase ≤ last

  one_hop : (low last : ℕ) (b : Boundary) (h : IsBetween low last b) (kind : Kind) (q p : ℕ) → slice_get plan.kinds (b.phase - 1) ≡ Some kind → q < plan.workers → (p ≡ q → ⊥) → waits_at kind (kind_owner kind plan.workers h.hop.visit.loops (param_values tree)) p q ≡ true →
      (hops : List Hop) × IsChain tree plan q low hops p last
  one_hop low last b h kind q p is less ne waits = (record { phase = h.hop.phase; processor = p } ∷ [], (h.above, hop_waits b h.hop kind p q is less ne waits, (refl, h.until)))

  -- a barrier orders all
  pub barrier_chain : (low last : ℕ) (bs : List Boundary) (q p : ℕ) → AllByRecursion (IsBetween low last) bs → list_any (λ u. is_barrier (kind_at plan.kinds u)) bs ≡ true → q < plan.workers → (p ≡ q → ⊥) → (hops : List Hop) × IsChain tree plan q low hops p last
  barrier_chain low last [] q p all some less ne = absurd (true≢false (sym some))
  barrier_chain low last (b ∷ bs) q p all some less ne = elim (cases_Bool (is_barrier (kind_at plan.kinds b))) [
    | inl here ↦ at_option (slice_get plan.kinds (b.phase - 1)) refl here
    | inr other ↦ barrier_chain low last bs q p all.1 (sym (ap (λ t. t || list_any (λ u. is_barrier (kind_at plan.kinds u)) bs) other) ∙ some) less ne
  ]
    where
      kinds : (k : Kind) → slice_get plan.kinds (b.phase - 1) ≡ Some k → is_barrier k ≡ true → (hops : List Hop) × IsChain tree plan q low hops p last
      kinds Nothing e h = absurd (true≢false (sym h))
      kinds (Producer a) e h = absurd (true≢false (sym h))
      kinds Left e h = absurd (true≢false (sym h))
      kinds Right e h = absurd (true≢false (sym h))
      kinds Both e h = absurd (true≢false (sym h))
      kinds Barrier e h = one_hop low last b all.0 Barrier q p e less ne refl
      kinds Join e h = one_hop low last b all.0 Join q p e less ne refl

      at_option : (o : Option Kind) → slice_get plan.kinds (b.phase - 1) ≡ o → is_barrier (kind_of o) ≡ true → (hops : List Hop) × IsChain tree plan q low hops p last
      at_option None e h = absurd (true≢false (sym h))
      at_option (Some k) e h = kinds k e h

  -- a producer's consumers wait for it
  pub producer_chain : (low last : ℕ) (b : Boundary) (h : IsBetween low last b) (a : Anchor) (q p : ℕ) → slice_get plan.kinds (b.phase - 1) ≡ Some (Producer a) → q < plan.workers → (p ≡ q → ⊥) → anchor_owner a plan.workers h.hop.visit.loops (param_values tree) ≡ q →
      (hops : List Hop) × IsChain tree plan q low hops p last
  producer_chain low last b h a q p is less ne owner = one_hop low last b h (Producer a) q p is less ne (equal_test (anchor_owner a plan.workers h.hop.visit.loops (param_values tree)) q owner)
